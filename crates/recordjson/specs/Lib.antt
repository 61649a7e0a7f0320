pub mod Words
pub mod Users
pub mod Bans
pub mod Records
