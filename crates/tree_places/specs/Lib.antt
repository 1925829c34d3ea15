pub mod Places
pub mod Kept
pub mod Laws
pub mod Held
