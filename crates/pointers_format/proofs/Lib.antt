pub mod Orders
pub mod Judged
pub mod Trying
pub mod Checking
pub mod Placed
pub mod Meant
