-- Lemmas for the functions of this crate.
pub mod Tests
