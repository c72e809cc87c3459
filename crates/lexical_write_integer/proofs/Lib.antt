pub mod FillLaws
pub mod PairLaws
pub mod StepLaws
