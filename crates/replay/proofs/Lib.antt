pub mod Lines
pub mod Doings
pub mod Startings
pub mod Endings
