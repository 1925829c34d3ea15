pub mod Covered
pub mod Plan
pub mod Reserved
