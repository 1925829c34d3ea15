pub mod LineSplits
pub mod Parts
pub mod RunLemmas
