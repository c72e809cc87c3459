pub mod FormatLaws
pub mod TextLaws
pub mod TableLaws
pub mod RowsLaws
pub mod SheetLaws
