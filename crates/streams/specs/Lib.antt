pub mod Accounts
pub mod Answers
pub mod Calls
pub mod Obstacles
pub mod State
pub mod Transfers
