-- What the private functions ask of their numbers, and what a test of bits tells.
pub mod Given
pub mod Bits
