pub mod Again
pub mod Line
pub mod Names
pub mod Numbers
pub mod Print
pub mod Script
pub mod Types
pub mod Words
