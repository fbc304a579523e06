pub mod Places
pub mod Ranges
pub mod Spares
pub mod Rules
pub mod Sheets
pub mod Reading
pub mod Areas
pub mod Words
