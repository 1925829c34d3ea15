pub mod TextLemmas
pub mod PutLemmas
pub mod SpellLemmas
pub mod SegmentLemmas
pub mod ArrayLemmas
pub mod FreeLemmas
pub mod NameLemmas
