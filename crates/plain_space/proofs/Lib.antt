pub mod Bytes
pub mod Seen
pub mod Steps
pub mod Views
