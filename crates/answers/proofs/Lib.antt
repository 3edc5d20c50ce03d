-- std's words for an angle that may be none
pub mod Angles
-- one number that may be refused
pub mod Numbers
