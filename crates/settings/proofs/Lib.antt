pub mod AddressLemmas
pub mod LineLemmas
