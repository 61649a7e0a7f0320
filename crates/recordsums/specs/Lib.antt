pub mod KeptSums
pub mod RecordSums
pub mod Sums
