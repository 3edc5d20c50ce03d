-- What the functions of this crate are given, and what they cite.
pub mod Given
pub mod Parts
