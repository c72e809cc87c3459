pub mod Fields
pub mod Sign
pub mod Parts
pub mod Encoding
pub mod Claims
pub mod PartsExamples
