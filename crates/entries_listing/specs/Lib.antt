-- Entries of a list in an array, as the program `places` has them.
pub mod Listing
