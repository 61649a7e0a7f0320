pub mod LineLemmas
pub mod PieceLemmas
