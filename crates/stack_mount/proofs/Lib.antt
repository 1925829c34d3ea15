pub mod Fronts
pub mod Seen
pub mod Verdicts
