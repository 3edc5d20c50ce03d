-- What the functions of this crate ask and tell.
pub mod NearSquare
pub mod Trials
