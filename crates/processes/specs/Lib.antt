pub mod Deeds
pub mod Standing
pub mod Turning
pub mod Promises
