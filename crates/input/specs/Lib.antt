-- What is read from outside, so far as it can be said. Definitions, and what is known of them.
pub mod Input
pub mod Lines
