pub mod EachLaws
pub mod InverseLaws
pub mod Worked
