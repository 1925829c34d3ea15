pub mod PlaceLemmas
pub mod ToldLemmas
