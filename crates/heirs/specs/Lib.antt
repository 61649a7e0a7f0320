pub mod Beginnings
pub mod Heirs
pub mod Descents
pub mod Examples
