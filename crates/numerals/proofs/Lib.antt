-- What the proofs of `numerals` share.
pub mod Bytes
pub mod Lines
pub mod Numbers
