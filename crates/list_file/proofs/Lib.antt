-- what the checks need of the bytes from a place on
pub mod Words
