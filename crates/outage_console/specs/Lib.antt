pub mod Argument
pub mod Screen
pub mod Week
pub mod Code
