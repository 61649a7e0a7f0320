pub mod Lines
pub mod Values
pub mod Rests
pub mod Asks
pub mod Cuts
