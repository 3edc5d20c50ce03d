-- What the exports are given, and what they answer.
pub mod Angles
pub mod Dates
pub mod InstantsGiven
pub mod Aberration
pub mod DatesGiven
pub mod Numbers
pub mod Pairs
