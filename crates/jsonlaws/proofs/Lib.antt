pub mod StringLemmas
pub mod ReadLemmas
pub mod RecordLemmas
