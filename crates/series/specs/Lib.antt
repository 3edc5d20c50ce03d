-- What the functions ask of their numbers.
pub mod Given
