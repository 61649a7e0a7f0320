mod Leaves
pub mod Faults
mod Heirs
pub mod Nets
pub mod Rankings
