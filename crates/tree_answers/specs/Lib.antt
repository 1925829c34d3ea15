pub mod Answers
pub mod Shown
pub mod Laws
pub mod Kept
