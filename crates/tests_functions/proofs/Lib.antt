-- one number that may be none
pub mod OneNumber
