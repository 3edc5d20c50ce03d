-- What the clauses of `decimals` cite.
pub mod Refused
pub mod Rooms
