pub mod PlaceLemmas
pub mod SlotLemmas
pub mod EditLemmas
pub mod ChangeLemmas
pub mod ShownLemmas
pub mod OneTreeLemmas
