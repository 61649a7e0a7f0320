pub mod Codes
pub mod Net
pub mod Network
pub mod Calling
pub mod Standing
