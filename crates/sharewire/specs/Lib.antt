pub mod Codes
pub mod Kinds
pub mod Texts
pub mod Frames
pub mod Bodies
pub mod Streams
pub mod Steps
