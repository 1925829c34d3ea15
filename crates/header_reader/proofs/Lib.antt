pub mod Answered
pub mod FirstLaws
pub mod Following
pub mod High
pub mod KindLaws
pub mod Parts
pub mod Stops
pub mod ToldLaws
