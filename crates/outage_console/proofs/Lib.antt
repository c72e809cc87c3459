pub mod ArgumentLaws
pub mod ScreenLaws
pub mod WeekLaws
