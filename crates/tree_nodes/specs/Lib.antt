pub mod Nodes
pub mod Slots
pub mod Entries
pub mod Shown
pub mod Laws
