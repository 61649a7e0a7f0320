pub mod Status
pub mod Modes
pub mod Words
pub mod Needs
pub mod Configs
pub mod Journals
pub mod Secrets
