pub mod Headers
pub mod Fills
pub mod Layouts
pub mod Written
