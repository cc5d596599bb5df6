pub mod Block
pub mod Opening
pub mod Ownership
pub mod Piece
