-- What the proofs share, of every row.
pub mod Stages
