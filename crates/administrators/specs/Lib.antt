pub mod Answers
pub mod Askers
pub mod Outcomes
pub mod Waiting
pub mod ToldChanges
pub mod Warnings
