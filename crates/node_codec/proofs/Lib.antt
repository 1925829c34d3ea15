pub mod CellLemmas
pub mod PutLemmas
pub mod NodeLemmas
pub mod HeapLemmas
pub mod SnodLemmas
pub mod GroupLemmas
pub mod ChunkLemmas
