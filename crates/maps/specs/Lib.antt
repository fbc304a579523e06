pub mod Places
pub mod Sheets
pub mod Rules
pub mod Reading
pub mod Homes
pub mod Areas
pub mod Words
