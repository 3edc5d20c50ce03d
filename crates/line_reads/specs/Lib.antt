-- What the contracts of this crate cite beside the rules; what is known of it; and that the cuts between reads leave
-- `times` and `dates` as they are.
pub mod Reads
pub mod Paddings
pub mod Inputs
pub mod Lengths
pub mod Steps
pub mod Starts
pub mod LineEnds
pub mod Cuts
