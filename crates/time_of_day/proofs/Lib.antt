-- What the proofs share.
mod Equal
