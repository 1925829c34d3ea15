pub mod Held
pub mod Memory
pub mod Ports
pub mod Table
