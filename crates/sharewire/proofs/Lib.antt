pub mod LengthLaws
pub mod LongTextLaws
pub mod BodyLaws
pub mod FrameLaws
pub mod StreamLaws
pub mod ReadingLaws
pub mod PieceLaws
