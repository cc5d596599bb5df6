pub mod Blocks
pub mod Brought
pub mod Copied
pub mod Pieces
pub mod Present
