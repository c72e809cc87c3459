pub mod Code
pub mod Structs
