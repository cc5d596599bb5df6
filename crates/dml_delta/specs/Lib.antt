pub mod Bad
pub mod Entries
pub mod Record
