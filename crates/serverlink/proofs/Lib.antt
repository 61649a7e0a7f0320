pub mod ToldLemmas
pub mod TagLemmas
pub mod InquiryLemmas
pub mod WaitingLemmas
pub mod LoginLogLemmas
pub mod SpeechLemmas
