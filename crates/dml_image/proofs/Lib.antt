pub mod LentLemmas
pub mod MoveLemmas
pub mod RunLemmas
pub mod TableLemmas
pub mod WriteLemmas
