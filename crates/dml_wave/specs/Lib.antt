pub mod Effects
pub mod Tasks
pub mod Waves
