pub mod TypeLaws
pub mod ShapeLaws
pub mod NumberLaws
pub mod ValueLaws
pub mod ProductLaws
