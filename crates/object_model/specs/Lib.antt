pub mod Tree
pub mod Boxes
pub mod Data
pub mod Step
pub mod Laws
pub mod Examples
