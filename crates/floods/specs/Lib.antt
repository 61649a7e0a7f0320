pub mod Acts
pub mod Windows
pub mod Watching
pub mod Sifting
