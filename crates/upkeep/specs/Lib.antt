pub mod Bases
pub mod Ending
pub mod Refusing
pub mod Reloading
pub mod Spaces
pub mod Stations
pub mod Flooding
pub mod HandOvers
