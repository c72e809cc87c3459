pub mod AnswerLaws
pub mod BitsLaws
pub mod DigitLaws
pub mod RadixLaws
pub mod TableLaws
pub mod WidthLaws
