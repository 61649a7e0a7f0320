pub mod Paths
pub mod Dials
pub mod Stunnels
