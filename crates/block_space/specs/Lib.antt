pub mod Catalogue
pub mod Blocks
pub mod Plans
pub mod Reserved
pub mod Written
pub mod Applied
