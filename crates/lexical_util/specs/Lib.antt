pub mod Reason
pub mod Answer
pub mod Digit
pub mod Examples
