pub mod Casemapping
pub mod Table
pub mod Channels
