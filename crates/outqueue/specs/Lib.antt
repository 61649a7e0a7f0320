pub mod Lanes
pub mod Rooms
pub mod Sending
pub mod Shares
pub mod Refusals
pub mod Once
pub mod Joining
