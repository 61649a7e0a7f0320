pub mod Strings
pub mod Values
