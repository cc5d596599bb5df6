pub mod Refusal
pub mod Description
pub mod Answer
