-- What the contracts of `vectors` cite. Assumes nothing.
pub mod Counts
