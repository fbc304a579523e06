pub mod Shots
