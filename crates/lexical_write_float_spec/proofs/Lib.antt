pub mod Integers
pub mod ValueLaws
pub mod LimitLaws
pub mod RangeLaws
pub mod LengthLaws
pub mod WriteLaws
pub mod Starred
