pub mod FollowingLemmas
pub mod HearingLemmas
pub mod OpeningLemmas
pub mod SendingLemmas
pub mod StepLemmas
mod Walks
