pub mod Walked
pub mod Matched
