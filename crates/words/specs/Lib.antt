-- What machine words hold: the machine side of every proof.
-- what fits a signed word, and what is read back
pub mod Fits
-- the bits hold an integer of at most a size: parameters, literals, results, and each operation with its need
pub mod Holds
-- what a test in code tells
pub mod Tests
-- what a * b + 5 holds
pub mod Examples
