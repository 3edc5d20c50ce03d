-- What `dates` prints: definitions, and what is known of them.
pub mod DateLines
-- laws
pub mod DateLaws
