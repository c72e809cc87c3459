pub mod EncodingLaws
pub mod FloatLaws
pub mod PartsLaws
pub mod OrderLaws
pub mod Worked
