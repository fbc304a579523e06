pub mod Sectors
pub mod Bytes
pub mod Faults
pub mod Calls
pub mod Blank
pub mod Order
pub mod Runs
