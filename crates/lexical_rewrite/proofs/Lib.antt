pub mod SignedLaws
pub mod ChainLaws
