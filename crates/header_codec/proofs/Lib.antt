pub mod SizeLaws
pub mod MessageLaws
pub mod PartLaws
