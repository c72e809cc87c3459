pub mod Words
pub mod Window
pub mod Table
pub mod Sheet
pub mod Calls
pub mod Format
pub mod Examples
