pub mod StoredLaws
pub mod FloatLaws
pub mod PowerLaws
pub mod PlanLaws
pub mod TextLaws
pub mod AnswerLaws
pub mod SignLaws
pub mod OneDigit
