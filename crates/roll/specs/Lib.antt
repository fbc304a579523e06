pub mod Slots
pub mod Rolls
pub mod Access
pub mod Opening
pub mod Wound
pub mod Slotted
