pub mod Gaps
pub mod Sayings
pub mod Faults
pub mod Fewness
pub mod Whys
