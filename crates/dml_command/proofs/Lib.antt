pub mod Asked
pub mod Found
pub mod Given
pub mod Kept
pub mod Steps
pub mod Numbers
pub mod Read
