pub mod Text
pub mod Users
pub mod Words
pub mod Edits
pub mod Changes
