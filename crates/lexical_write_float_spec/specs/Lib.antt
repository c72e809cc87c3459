pub mod Value
pub mod Limit
pub mod Text
pub mod Write
pub mod Range
pub mod Claims
pub mod Examples
