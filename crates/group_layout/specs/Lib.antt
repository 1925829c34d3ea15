pub mod Rows
pub mod Leaves
pub mod Growth
pub mod Nodes
pub mod Laws
pub mod Laying
pub mod Placing
