pub mod Links
pub mod Edited
pub mod Grown
pub mod Drafts
pub mod Inserting
pub mod Checked
pub mod Applied
pub mod Removing
