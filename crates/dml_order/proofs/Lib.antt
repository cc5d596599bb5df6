pub mod OrderLemmas
pub mod KeepsLemmas
pub mod OrderLaws
pub mod LevelLemmas
pub mod WaveLemmas
pub mod WaveSteps
pub mod WaveFacts
pub mod PartLemmas
