pub mod CompareLemmas
pub mod CompareRowLemmas
