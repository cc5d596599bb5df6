pub mod Found
pub mod Lanes
pub mod Parts
pub mod Work
