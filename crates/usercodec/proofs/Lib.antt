pub mod ShapeLaws
pub mod Steps
pub mod PartLaws
pub mod FieldLaws
pub mod EditLaws
pub mod ChangeLaws
pub mod SortLaws
pub mod ItemSteps
pub mod PassLaws
pub mod HeldLaws
pub mod ItemLaws
pub mod NewLaws
pub mod RecordLaws
pub mod OldLaws
pub mod TagLaws
pub mod ReaderLaws
pub mod RecordLengths
mod WriterLaws
