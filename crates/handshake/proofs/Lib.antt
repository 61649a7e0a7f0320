pub mod WordLemmas
pub mod HashLemmas
pub mod TextLemmas
pub mod BookLemmas
pub mod ShownLemmas
pub mod SecretLemmas
pub mod MeetingLemmas
mod ParentLemmas
pub mod HeirLemmas
