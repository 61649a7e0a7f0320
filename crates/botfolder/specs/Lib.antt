pub mod Causes
pub mod Folders
pub mod Books
pub mod Owners
