pub mod EntryLemmas
pub mod LaneLemmas
pub mod LimitLemmas
pub mod PieceLemmas
pub mod RecordLemmas
pub mod RisingLemmas
pub mod UnitLemmas
