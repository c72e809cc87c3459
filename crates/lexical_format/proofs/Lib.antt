pub mod CheckLaws
pub mod FormatLaws
mod PairLaws
