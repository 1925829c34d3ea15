pub mod Links
pub mod Reading
pub mod Texts
