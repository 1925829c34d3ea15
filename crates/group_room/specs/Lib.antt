pub mod Index
pub mod Used
pub mod Room
