pub mod Counts
pub mod Holds
pub mod Keeps
pub mod Orders
pub mod Placed
pub mod Totals
pub mod Works
