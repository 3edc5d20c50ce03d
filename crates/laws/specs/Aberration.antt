-- Aberration: what is added is so small beside an accepted direction that the length to be divided by is never nought,
-- and what is brought to length is accepted.
use Rattle.std.specs.Prelude.{◌≡◌, false, [], ◌∷◌, ℕ, ◌*◌, ◌≤◌, ◌<◌, ◌^◌, ℤ, ◌+ℤ◌, ◌-ℤ◌}
use Rattle.std.proofs.Math.Nat.{mul-le-mul}
use Rattle.std.proofs.Common.{lt_of_not-le, le_of_lt, arith}
use Rattle.std.proofs.Math.Decide.{dec_le}
use Rattle.std.proofs.Math.IntN.{nat_abs}
use borrow.Author.Tests.{ne_eqb}
use Rattle.integers.specs.Size.{abs_neg}
use Rattle.integers.specs.Ring.{ring, v0, v1, neg, ◌⊕◌, ◌⊖◌}
use Rattle.rules.specs.declared.Direction.{Direction}
use Rattle.rules.specs.Units.{unit}
use Rattle.rules.specs.Length.{square, squares, root, to_length, length_refused}
use Rattle.rules.specs.Turning.{Accepted}
use Rattle.laws.specs.Root.{root_ge}
use Rattle.laws.specs.Directions.{PartsLe, plus, minus, plus_le, le_of_minus_le, accepted_le}
use Rattle.laws.specs.Length.{to_length_accepted}
use Rattle.laws.specs.Turn3.{longest}

-- the most that an added part may be: above what step 4 adds (`Night.most_aberration`)
abbrev pub most_added : ℕ
most_added = 110000

-- the most that the three may be together
abbrev added : ℕ
added = 190526

-- 15/16 of 2^30
abbrev enough : ℕ
enough = 15 * 2 ^ 26

module _ (v a : Direction) (hv : Accepted (squares v)) (ha : PartsLe most_added a) where
  added_le : squares a ≤ added * added
  unfolding squares square
  added_le = omega (arith, mul-le-mul ha.x ha.x, mul-le-mul ha.y ha.y, mul-le-mul ha.z ha.z)

  pub plus_fits : squares (plus v a) < 2 ^ 61
  plus_fits = omega (arith, plus_le v a longest added (accepted_le hv) added_le)

  apart : squares (minus v (plus v a)) ≤ added * added
  unfolding squares square
  apart = rw (size v.x a.x, size v.y a.y, size v.z a.z) added_le
    where
      size : (x e : ℤ) → nat_abs (x -ℤ (x +ℤ e)) ≡ nat_abs e
      size x e = rw (ring (x ∷ e ∷ []) (v0 ⊖ (v0 ⊕ v1)) (neg v1) tt) (abs_neg e)

  squares_ge : enough * enough ≤ squares (plus v a)
  squares_ge = by (dec_le (enough * enough) (squares (plus v a)))
    where
      by : Dec (enough * enough ≤ squares (plus v a)) → enough * enough ≤ squares (plus v a)
      by (yes h) = h
      by (no h) = absurd (omega (
        arith,
        hv.low,
        le_of_minus_le (plus v a) v enough added (le_of_lt (lt_of_not-le h)) apart,
      ))

  -- the length to be divided by is never nought
  pub plus_root_ge : 15 * unit ≤ 16 * root (squares (plus v a))
  plus_root_ge = omega (arith, root_ge (squares (plus v a)) enough (omega (arith, plus_fits)) squares_ge)

  pub plus_not_refused : length_refused (plus v a) ≡ false
  unfolding length_refused
  plus_not_refused = ne_eqb (root (squares (plus v a))) 0 (λ e. omega (arith, plus_root_ge))

  pub plus_accepted : Accepted (squares (to_length (plus v a)))
  plus_accepted = to_length_accepted (plus v a) (omega (arith, plus_fits)) plus_root_ge
