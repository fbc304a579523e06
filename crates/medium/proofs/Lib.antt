pub mod Burns
pub mod Once
pub mod Parts
pub mod Reached
pub mod Rows
