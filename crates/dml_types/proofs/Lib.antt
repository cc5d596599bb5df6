pub mod BatchLemmas
pub mod FenceLemmas
pub mod FirstLemmas
pub mod HomeLemmas
pub mod LoanLemmas
pub mod MemoryLemmas
pub mod MoveLemmas
pub mod StepLemmas
