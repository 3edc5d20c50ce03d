-- A pressure or a temperature in a word, taken in tenths: definitions, worked cases, and what is known of them. Before
-- them: which rows of bytes spell a number of 64 bits.
pub mod Digits
pub mod Numbers
pub mod Tenths
pub mod TenthsCases
-- laws
pub mod TenthsParts
