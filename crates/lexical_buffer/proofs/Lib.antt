pub mod PutLaws
pub mod FewDigits
