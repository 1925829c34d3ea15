pub mod Matched
pub mod Steps
pub mod Nodes
pub mod Edited
pub mod Counts
pub mod Places
pub mod Fits
pub mod Held
