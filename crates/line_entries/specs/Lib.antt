-- The line of an entry, of our own program `places`, with its observed altitude, and how long it is.
pub mod EntryLine
pub mod Observed
-- laws
pub mod Lengths
pub mod ObservedAltitude
