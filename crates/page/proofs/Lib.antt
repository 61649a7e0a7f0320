pub mod MarkLemmas
pub mod RequestLemmas
pub mod WritingLemmas
pub mod PersonLemmas
