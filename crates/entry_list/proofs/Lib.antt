pub mod EntryLaws
pub mod NamedLemmas
pub mod OrderLaws
pub mod PlaceLemmas
