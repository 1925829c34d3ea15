pub mod Bytes
pub mod Counted
pub mod Held
pub mod Planned
pub mod Stays
