-- The line that our own program `places` reads, not of document 01: definitions, and what is known of them.
pub mod Asking
-- laws
pub mod Words
pub mod LongLines
pub mod Answers
