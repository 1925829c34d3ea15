pub mod Products
pub mod Types
pub mod Shapes
pub mod Values
