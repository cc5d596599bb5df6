pub mod Crews
pub mod Numbers
pub mod Props
pub mod Queues
pub mod Rule
pub mod Slots
pub mod Tasks
