pub mod OutgoingLemmas
pub mod Lists
pub mod Folding
pub mod FoundLaws
pub mod Goodness
pub mod KeptReplies
pub mod HubStates
pub mod EndStates
pub mod WritingLaws
pub mod KeptLaws
pub mod AnewLaws
pub mod Sending
pub mod HubLinkLaws
pub mod PacketLaws
mod LeafLinkLaws
mod PumpLaws
mod InstallLaws
mod PartLaws
mod TogetherLaws
pub mod CreateLaws
pub mod OpenLaws
pub mod LeftLaws
pub mod CallLaws
