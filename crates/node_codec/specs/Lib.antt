pub mod Cells
pub mod Heap
pub mod Snod
pub mod TreeHead
pub mod GroupNodes
pub mod ChunkNodes
