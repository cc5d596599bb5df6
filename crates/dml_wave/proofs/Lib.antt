pub mod Chunks
pub mod CommitLemmas
pub mod Cuts
pub mod Lists
pub mod PieceLemmas
pub mod ValueLemmas
pub mod WaveLemmas
