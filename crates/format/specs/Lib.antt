pub mod Addresses
pub mod Blocks
pub mod Sectors
pub mod Laws
