pub mod Joined
pub mod Summed
pub mod Laid
pub mod Planned
pub mod Ranged
