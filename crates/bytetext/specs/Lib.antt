pub mod Refusals
pub mod Numerals
pub mod Words
