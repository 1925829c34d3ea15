pub mod Complete
pub mod Create
pub mod Endings
pub mod Files
pub mod Script
pub mod Stores
pub mod Words
