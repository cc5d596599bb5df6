pub mod Copied
pub mod Kept
pub mod Table
pub mod Two
pub use Rattle.dml_segments.specs.Blocks
pub use Rattle.dml_segments.specs.Brought
pub use Rattle.dml_segments.specs.Pieces
pub use Rattle.dml_segments.specs.Present
