pub mod Firsts
pub mod Found
pub mod Gathered
pub mod Seen
pub mod Told
pub mod Walks
