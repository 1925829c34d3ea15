pub mod Edits
pub mod States
pub mod Lines
