pub mod StoreLaws
pub mod FillLaws
pub mod RowLaws
pub mod LinesLaws
pub mod SheetLaws
