-- What the contracts of inner functions cite beside the rules.
pub mod Fits
