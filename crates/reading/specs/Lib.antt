-- What the clauses of `reading` cite.
pub mod Given
