pub mod StreamLemmas
pub mod WaitingLemmas
pub mod SpeakerLemmas
pub mod BeatLemmas
pub mod SealLemmas
pub mod PickingLemmas
pub mod HearingLemmas
mod JoiningLemmas
mod DoubtLemmas
mod Walks
mod DiceLemmas
