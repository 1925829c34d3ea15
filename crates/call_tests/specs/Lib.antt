pub mod Regions
pub mod TwoRegions
