-- The two addition formulas, nearly: the series at half a quarter less an angle, against those at the angle
-- (docs/MATHEMATICS.md, "Half a quarter less").
use Rattle.std.specs.Prelude.{◌≡◌, refl, List, [], ◌∷◌, ℕ, ◌*◌, ◌≤◌, ℤ, negsuc, neg_ℤ, nat_abs, ◌+ℤ◌, ◌-ℤ◌, ◌*ℤ◌}
use Rattle.std.proofs.Common.{mul-le-mul_right, arith, lit<}
use Rattle.std.proofs.Math.IntN.{pos}
use Rattle.integers.specs.Ring.{ring, v0, v1, v2, v3, v4, v5, v6, ◌⊕◌, ◌⊖◌, ◌⊗◌, neg, lit}
use Rattle.integers.specs.Power.{power, power_mul}
use Rattle.integers.specs.Polynomial.{plus, scale, times, value_at, size_at, value_plus, value_scale, value_shift}
use Rattle.integers.specs.Polynomial.{value_times, raise, value_le}
use Rattle.rules.specs.Units.{unit}
use Rattle.rules.specs.Series.{whole, sine_series, cosine_series}
use Rattle.laws.specs.Series.{whole_power, sine_is, cosine_is}
use Rattle.laws.specs.Certificates.{over, half_quarter_sine, over_power, less, sine_of_less, cosine_of_less, sine_over}
use Rattle.laws.specs.Certificates.{cosine_over, cosine_gap, sine_gap, less_scale, cosine_gap_le, sine_gap_le}
use Rattle.laws.specs.HalfQuarterLess.{less_denominator, less_numerator, cosine_of_less_lem, sine_of_less_lem, sine_over_lem}
use Rattle.laws.specs.HalfQuarterLess.{cosine_over_lem, cosine_length, sine_length, over_length, less_length, less_is}

denominator_is : (d : ℕ) → less_denominator d ≡ over * d
unfolding less_denominator
denominator_is d = refl

-- a bound of the coefficients is one of the value
gap_le : (v s w g : ℕ) → v ≤ s * w → 100 * (unit * s) ≤ 3 * (over * g) → 100 * (unit * v) ≤ 3 * (over * (g * w))
gap_le v s w g h k = omega (arith, mul-le-mul_right w k)

module _ (y : ℤ) (d : ℕ) where
  -- the value of a list at y / d, times a power of d
  abbrev at : ℕ → List ℤ → ℤ
  at e g = value_at y d e g

  -- ---- the two identities

  cosine_identity : pos over *ℤ cosine_series (less_numerator y d) (less_denominator d)
      -ℤ pos (half_quarter_sine * over_power) *ℤ (cosine_series y d +ℤ sine_series y d)
      ≡ at 15 cosine_gap
  unfolding cosine_gap
  cosine_identity =
      rw (
        cosine_is (less_numerator y d) (less_denominator d),
        cosine_is y d,
        sine_is y d,
        cosine_of_less_lem y d,
        sine_over_lem y d,
        cosine_over_lem y d,
        value_plus y d 15 (scale (pos over) (scale (pos (15 * over)) cosine_of_less))
            (scale (neg_ℤ (pos (half_quarter_sine * over_power))) (plus (scale (pos 15) cosine_over) (pos 0 ∷ sine_over))),
        value_scale y d 15 (pos over) (scale (pos (15 * over)) cosine_of_less),
        value_scale y d 15 (pos (15 * over)) cosine_of_less,
        value_scale y d 15 (neg_ℤ (pos (half_quarter_sine * over_power)))
            (plus (scale (pos 15) cosine_over) (pos 0 ∷ sine_over)),
        value_plus y d 15 (scale (pos 15) cosine_over) (pos 0 ∷ sine_over),
        value_scale y d 15 (pos 15) cosine_over,
        value_shift y d 14 sine_over,
        raise y d 14 cosine_of_less cosine_length,
        raise y d 14 cosine_over over_length,
        denominator_is d,
      )
      (ring (y ∷ pos d ∷ pos (half_quarter_sine * over_power) ∷ at 14 cosine_of_less ∷ at 14 cosine_over ∷ at 14 sine_over
      ∷ [])
      (lit (pos over) ⊗ (lit (pos 15) ⊗ (lit (pos over) ⊗ v1) ⊗ v3) ⊖ v2 ⊗ (lit (pos 15) ⊗ v1 ⊗ v4 ⊕ v0 ⊗ v5))
      (lit (pos over) ⊗ (lit (pos (15 * over)) ⊗ (v1 ⊗ v3)) ⊕ neg v2 ⊗ (lit (pos 15) ⊗ (v1 ⊗ v4) ⊕ v0 ⊗ v5)) tt)

  sine_identity : pos over *ℤ sine_series (less_numerator y d) (less_denominator d)
      -ℤ pos (half_quarter_sine * over_power) *ℤ (cosine_series y d -ℤ sine_series y d)
      ≡ at 15 sine_gap
  unfolding sine_gap
  sine_identity =
      rw (
        sine_is (less_numerator y d) (less_denominator d),
        cosine_is y d,
        sine_is y d,
        sine_of_less_lem y d,
        sine_over_lem y d,
        cosine_over_lem y d,
        value_plus y d 15 (scale (pos over) (times less sine_of_less))
            (scale (neg_ℤ (pos (half_quarter_sine * over_power)))
            (plus (scale (pos 15) cosine_over) (scale (negsuc 0) (pos 0 ∷ sine_over)))),
        value_scale y d 15 (pos over) (times less sine_of_less),
        value_times y d 1 14 less sine_of_less less_length sine_length,
        value_scale y d 15 (neg_ℤ (pos (half_quarter_sine * over_power)))
            (plus (scale (pos 15) cosine_over) (scale (negsuc 0) (pos 0 ∷ sine_over))),
        value_plus y d 15 (scale (pos 15) cosine_over) (scale (negsuc 0) (pos 0 ∷ sine_over)),
        value_scale y d 15 (pos 15) cosine_over,
        value_scale y d 15 (negsuc 0) (pos 0 ∷ sine_over),
        value_shift y d 14 sine_over,
        raise y d 14 cosine_over over_length,
        less_is y d,
      )
      (ring (y ∷ pos d ∷ pos (half_quarter_sine * over_power) ∷ at 14 sine_of_less ∷ at 14 cosine_over ∷ at 14 sine_over
      ∷ at 1 less ∷ [])
      (lit (pos over) ⊗ (v6 ⊗ v3) ⊖ v2 ⊗ (lit (pos 15) ⊗ v1 ⊗ v4 ⊖ v0 ⊗ v5))
      (lit (pos over) ⊗ (v6 ⊗ v3) ⊕ neg v2 ⊗ (lit (pos 15) ⊗ (v1 ⊗ v4) ⊕ lit (negsuc 0) ⊗ (v0 ⊗ v5))) tt)

  whole_scale : whole (less_denominator d) ≡ less_scale * power d 15
  unfolding less_denominator less_scale over_power
  whole_scale = rw (whole_power (over * d), power_mul over d 15) (omega arith)

  pub whole_less : whole (less_denominator d) ≡ over_power * whole d
  unfolding less_denominator over_power
  whole_less = rw (whole_power (over * d), whole_power d, power_mul over d 15) (omega arith)

  -- ---- and their bounds

  pub cosine_less_near : 1000 * nat_abs y ≤ 430 * d
      → 100 * (unit * nat_abs (pos over *ℤ cosine_series (less_numerator y d) (less_denominator d)
      -ℤ pos (half_quarter_sine * over_power) *ℤ (cosine_series y d +ℤ sine_series y d)))
      ≤ 3 * (over * whole (less_denominator d))
  cosine_less_near h = rw (cosine_identity, whole_scale)
      (gap_le (nat_abs (at 15 cosine_gap)) (size_at 430 1000 cosine_gap) (power d 15) less_scale
      (value_le y d 430 1000 (lit< tt) h 15 cosine_gap) cosine_gap_le)

  pub sine_less_near : 1000 * nat_abs y ≤ 430 * d
      → 100 * (unit * nat_abs (pos over *ℤ sine_series (less_numerator y d) (less_denominator d)
      -ℤ pos (half_quarter_sine * over_power) *ℤ (cosine_series y d -ℤ sine_series y d)))
      ≤ 3 * (over * whole (less_denominator d))
  sine_less_near h = rw (sine_identity, whole_scale)
      (gap_le (nat_abs (at 15 sine_gap)) (size_at 430 1000 sine_gap) (power d 15) less_scale
      (value_le y d 430 1000 (lit< tt) h 15 sine_gap) sine_gap_le)
