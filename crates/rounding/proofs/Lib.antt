-- What the proofs share.
mod Half
pub mod ByUnit
