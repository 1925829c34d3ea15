pub mod Judged
pub mod Touched
pub mod Reserving
