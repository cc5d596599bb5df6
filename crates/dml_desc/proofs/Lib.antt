pub mod CheckedLemmas
pub mod EncodingLemmas
pub mod LayoutLemmas
pub mod RefusalLemmas
