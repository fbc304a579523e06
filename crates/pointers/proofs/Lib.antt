pub mod Members
pub mod Ruled
pub mod Geometry
pub mod Spared
pub mod Written
pub mod Answered
pub mod Listing
pub mod Turns
