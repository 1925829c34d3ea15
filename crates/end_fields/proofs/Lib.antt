pub mod Greatest
pub mod Told
pub mod Held
pub mod Plans
pub mod FlushLine
