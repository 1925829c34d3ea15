pub mod Opened
pub mod Grown
pub mod Sound
