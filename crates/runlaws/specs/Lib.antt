pub mod Calls
pub mod Folders
pub mod Worlds
pub mod Histories
pub mod Examples
