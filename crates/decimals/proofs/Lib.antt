-- What the proofs of `decimals` share.
pub mod Digits
