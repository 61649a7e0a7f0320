pub mod Drains
pub mod ShareLemmas
pub mod JoiningLemmas
pub mod JoinedDrains
pub mod JoiningLaws
