pub mod BlankLemmas
pub mod HoldsLemmas
