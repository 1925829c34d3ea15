pub mod Greatest
pub mod Edits
pub mod Spelled
