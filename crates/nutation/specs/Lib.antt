-- What the clauses of `nutation` cite.
pub mod Terms
pub mod TermFits
pub mod Products
