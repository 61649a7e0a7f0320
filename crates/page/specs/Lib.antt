pub mod Statuses
pub mod Marks
pub mod Writing
pub mod Sites
pub mod Requests
pub mod Persons
pub mod Answers
