mod TableLemmas
pub mod SameLemmas
pub mod ChannelLemmas
