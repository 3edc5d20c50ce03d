-- What the clauses of `polynomials` cite.
pub mod Fits
