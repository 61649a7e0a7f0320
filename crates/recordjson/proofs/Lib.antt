pub mod MemberLemmas
pub mod Plain
