-- Angles as our own program `places` prints them for people, not of document 01: definitions, and what is known of
-- them.
pub mod Sexagesimal
-- laws
pub mod Rows
pub mod Quotients
pub mod Widths
