-- Whole numbers: what the kit lacks of ℤ.
-- an integer by its two parts, for `omega`: facts of sums, products and tests; equations back; identities of few
-- variables
pub mod Difference
-- sizes: of a sum, a difference, a product; a size from both sides
pub mod Size
-- quotient and remainder toward zero: signs, sizes
pub mod Quotient
-- laws of every sign from those of naturals
pub mod Sign
-- polynomials in several variables, as nested coefficients; identities by computing them: `ring`; a bound of one
-- variable: `bounded`
pub mod Coefficients
pub mod Ring
-- the order, and orders by certificate: `certify`
pub mod Order
-- squares: order back, Cauchy and Schwarz, Minkowski
pub mod Square
-- powers; polynomials as lists: P1 to P3 of docs/MATHEMATICS.md, "Polynomials as lists"; a series worked in steps is
-- one: P4
pub mod Power
pub mod Polynomial
pub mod SeriesStages
-- one of each
pub mod Examples
