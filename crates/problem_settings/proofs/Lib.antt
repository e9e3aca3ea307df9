pub mod PartLemmas
pub mod FieldLemmas
pub mod ScalarLemmas
pub mod NumberLemmas
pub mod EntryLemmas
pub mod SkippedLemmas
