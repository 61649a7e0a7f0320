pub mod TakingLemmas
mod OwnLemmas
mod QuietLemmas
mod StationLemmas
