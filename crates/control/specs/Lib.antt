pub mod Vocabulary
pub mod Reading
pub mod Answering
pub mod Showing
