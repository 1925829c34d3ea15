pub mod Rows
pub mod Places
pub mod Grown
pub mod Heap
