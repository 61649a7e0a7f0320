pub mod Acts
pub mod Following
pub mod Openings
