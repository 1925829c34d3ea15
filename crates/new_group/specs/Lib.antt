pub mod Group
pub mod Placed
pub mod Planned
