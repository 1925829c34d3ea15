pub mod ArenaLemmas
pub mod TableLemmas
pub mod CutLemmas
pub mod HeldLemmas
pub mod ViewLemmas
pub mod MemoryLemmas
pub mod FilesLemmas
