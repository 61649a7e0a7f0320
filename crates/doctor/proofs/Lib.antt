pub mod StatusLemmas
pub mod WordLemmas
