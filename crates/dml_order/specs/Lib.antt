pub mod Order
pub mod Waves
