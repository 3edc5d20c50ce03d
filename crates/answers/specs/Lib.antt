-- What C gives and gets, in plain numbers.
pub mod Given
pub mod Answers
-- a place and its observed altitude as one answer
pub mod Beside
-- one number that may be refused
pub mod Numbered
