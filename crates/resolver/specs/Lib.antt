pub mod Names
pub mod Queries
pub mod Replies
pub mod Held
pub mod Files
pub mod Views
