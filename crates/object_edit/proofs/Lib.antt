pub mod Parts
pub mod Beside
pub mod Joined
pub mod Made
