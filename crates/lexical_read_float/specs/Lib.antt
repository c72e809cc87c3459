pub mod Guard
pub mod Pattern
pub mod Kept
pub mod Digits
pub mod Scan
pub mod Rounding
pub mod Bits
