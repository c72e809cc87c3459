pub mod PlaneLaws
pub mod ColumnLaws
