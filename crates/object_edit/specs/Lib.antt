pub mod Joined
pub mod Making
