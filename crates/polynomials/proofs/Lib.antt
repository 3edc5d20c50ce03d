-- What the proofs share, of every function of an instant.
pub mod Held
pub mod HandedOn
