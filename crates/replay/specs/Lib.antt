pub mod Text
pub mod Deeds
pub mod Starting
pub mod Steady
pub mod Doing
pub mod Transcript
pub mod Ending
