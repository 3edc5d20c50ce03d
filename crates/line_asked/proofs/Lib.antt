-- What the proofs of `line_asked` share.
pub mod Words
pub mod Sites
pub mod Parts
