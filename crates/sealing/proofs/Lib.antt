mod KeyLemmas
pub mod TagLemmas
pub mod RecordLemmas
mod ReadingLemmas
mod SealingLemmas
pub mod OnceLaws
pub mod UnforgedLaws
