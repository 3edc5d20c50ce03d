-- What keeps every value on the way of a polynomial in time within the word.
use Rattle.std.specs.Prelude.{List, [], ◌∷◌, ◌≤◌, ◌^◌, ℤ, pos, nat_abs}
use Rattle.std.proofs.Common.{arith}
use Rattle.rules.specs.Polynomials.{polynomial}
use Rattle.laws.specs.Instant.{InRange}
use Rattle.laws.specs.Polynomials.{sizes, polynomial_le}

-- of one step
pub record StepFits (t p next : ℤ) : Type 0 where
  pub instant : InRange t
  pub value_le : nat_abs p ≤ 2 ^ 60
  pub next_le : nat_abs next ≤ 2 ^ 60

-- the coefficient of the highest power
abbrev pub highest : List ℤ → ℤ
highest [] = pos 0
highest (c ∷ []) = c
highest (c ∷ d ∷ ds) = highest (d ∷ ds)

-- of all steps: Q times the highest coefficient is one word's product
pub record PolynomialFits (t : ℤ) (cs : List ℤ) : Type 0 where
  pub instant : InRange t
  pub sizes_le : sizes cs ≤ 2 ^ 60
  pub highest_le : nat_abs (highest cs) ≤ 2 ^ 21

-- what is left without the constant fits too, and so does the last step
pub rest_fits : {t c d : ℤ} {ds : List ℤ} → PolynomialFits t (c ∷ d ∷ ds) → PolynomialFits t (d ∷ ds)
rest_fits h = record { instant = h.instant; sizes_le = omega (arith, h.sizes_le); highest_le = h.highest_le }

pub step_fits : {t c d : ℤ} {ds : List ℤ} → PolynomialFits t (c ∷ d ∷ ds) → StepFits t (polynomial (d ∷ ds) t) c
step_fits {t} {c} {d} {ds} h = record {
  instant = h.instant;
  value_le = omega (arith, polynomial_le (d ∷ ds) t h.instant, h.sizes_le);
  next_le = omega (arith, h.sizes_le);
}
