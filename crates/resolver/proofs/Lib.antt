pub mod SpellingLemmas
pub mod RecordLemmas
pub mod HeldLemmas
pub mod FileLemmas
