pub mod BlockLemmas
pub mod JoinLemmas
pub mod PatternLemmas
pub mod PieceLemmas
pub mod RangeLemmas
pub mod SegmentLemmas
pub mod SliceLemmas
