pub mod Addresses
pub mod Ranges
pub mod Touched
pub mod Pages
pub mod Raised
pub mod Limits
pub mod Reserved
