-- Walks over lent memory: what each of them would repeat.
-- a function's locals as one piece of a context, allocated and freed at once
pub mod Locals
-- entries taken out of a context, and what they become put at its end
pub mod Contexts
-- a callee as its caller sees it: its contract, what it tells, and how its result is spelt
pub mod Callees
-- a call: what is asked, what is told, and what comes back
pub mod Calls
-- an element of a row: read, or another put in its place
pub mod Entries
-- a lent slice: opened and closed, looked into, and passed on
pub mod Slices
-- the statements of a walk, with each local at its own number
pub mod Statements
-- a `&mut` slice that is lent again for a call, and comes back
pub mod Again
-- from a walk to the contract
pub mod Meets
-- lists that are worked element by element, and why the loop ends
pub mod Lists
-- how the types that the walks pass are spelt
pub mod Rows
-- what a walk takes from the kit
pub mod Kit
