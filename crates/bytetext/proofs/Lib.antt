pub mod Lists
pub mod Bits
pub mod Errors
