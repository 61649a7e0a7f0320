pub mod Present
pub mod Words
pub mod Grammar
pub mod Heard
pub mod Scripts
pub mod BotTurns
