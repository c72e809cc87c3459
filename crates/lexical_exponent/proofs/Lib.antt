pub mod DifferenceLaws
pub mod PowerLaws
pub mod ExponentLaws
