pub mod Letters
pub mod Faults
pub mod Expression
