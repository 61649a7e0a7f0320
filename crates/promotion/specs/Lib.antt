pub mod Leaves
pub mod Promotions
pub mod Faults
