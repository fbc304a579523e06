pub mod Flaws
pub mod Cells
pub mod Plates
pub mod Access
pub mod Opening
pub mod Sectored
pub mod Covering
pub mod Filled
