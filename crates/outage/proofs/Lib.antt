pub mod FindLaws
pub mod HeaderLaws
pub mod NumberLaws
