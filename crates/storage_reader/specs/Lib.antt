pub mod Elements
pub mod Ends
pub mod Forms
pub mod Nodes
