pub mod Hmac
pub mod Records
pub mod Streams
pub mod Steps
pub mod Unforged
