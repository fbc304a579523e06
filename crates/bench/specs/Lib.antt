pub mod Trials
pub mod Agreement
