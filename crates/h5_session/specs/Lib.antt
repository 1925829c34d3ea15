pub mod Session
pub mod Stops
pub mod Given
pub mod Steps
pub mod Waits
pub mod Doing
pub mod Making
