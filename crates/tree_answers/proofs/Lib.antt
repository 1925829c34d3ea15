pub mod Places
pub mod Walks
pub mod Told
pub mod Looks
pub mod Opened
pub mod SoundTrees
pub mod Full
