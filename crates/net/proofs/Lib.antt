pub mod TurnLemmas
pub mod ConnectionLemmas
pub mod LogFormLemmas
