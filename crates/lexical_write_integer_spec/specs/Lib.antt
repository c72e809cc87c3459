pub mod Digits
pub mod Write
pub mod Front
pub mod Claims
pub mod Examples
