pub mod NodesFound
pub mod Growth
pub mod SoFar
pub mod Objects
pub mod Joined
pub mod Rooted
pub mod Sounds
