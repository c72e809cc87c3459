pub mod Shape
pub mod Parse
pub mod Round
pub mod Read
pub mod Claims
pub mod Examples
