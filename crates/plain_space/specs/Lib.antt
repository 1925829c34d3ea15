pub mod File
pub mod Plain
pub mod Alike
pub mod CameFrom
