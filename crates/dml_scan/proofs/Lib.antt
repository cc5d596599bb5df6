pub mod CompareLemmas
pub mod LaneLemmas
pub mod LimitLemmas
pub mod ReachLemmas
pub mod StageLemmas
pub mod TurnLemmas
pub mod VectorLemmas
