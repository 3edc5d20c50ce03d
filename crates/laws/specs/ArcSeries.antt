-- The series of the cosine and the sine at the arc's series of a / b are in the ratio b to a, nearly: the identity, and
-- the bound (docs/MATHEMATICS.md, "The arc's identity").
use Rattle.std.specs.Prelude.{◌≡◌, List, [], ◌∷◌, ℕ, ◌*◌, ◌≤◌, length, ℤ, negsuc, ◌+ℤ◌, ◌-ℤ◌, ◌*ℤ◌}
use Rattle.std.proofs.Math.Path.{ap}
use Rattle.std.proofs.Common.{◌∙◌, arith, lit≤}
use Rattle.std.proofs.Math.IntN.{pos}
use Rattle.integers.specs.Ring.{ring, v0, v1, v2, v3, v4, v5, ◌⊕◌, ◌⊖◌, ◌⊗◌, lit}
use Rattle.integers.specs.Power.{power, power_add, power_suc, power_mul, power_power}
use Rattle.integers.specs.Polynomial.{scale, times, value_at, length_times, value_plus, value_scale, value_shift}
use Rattle.integers.specs.Polynomial.{value_times, raises}
use Rattle.integers.specs.SeriesStages.{numerator, denominator, degree, length_coefficients}
use Rattle.rules.specs.Reading.{arc_row}
use Rattle.rules.specs.Series.{whole, sine_series, cosine_series}
use Rattle.laws.specs.RoundedStages.{stages_of_arc}
use Rattle.laws.specs.Series.{sine_steps, cosine_steps, sine_list, cosine_list, identity, whole_power, plain}
use Rattle.laws.specs.Series.{plain_denominator, sine_is, cosine_is, sine_at, cosine_at}
use Rattle.laws.specs.Certificates.{arc_list, odds, odds_is, arc_square, sine_of_arc, cosine_of_arc, arc_gap, arc_scale}
use Rattle.laws.specs.Arc.{arc_numerator, arc_denominator}

-- ---- lengths of the lists

arc_length : length arc_list ≤ 12
unfolding arc_list degree
arc_length = length_coefficients identity 1 1 (lit≤ tt) (stages_of_arc arc_row) (pos 1 ∷ []) 0 23 (lit≤ tt)

square_length : length arc_square ≤ 24
unfolding arc_square
square_length = omega (arith, length_times arc_list arc_list 11 11 arc_length arc_length)

sine_length : length sine_of_arc ≤ 162
unfolding sine_of_arc degree
sine_length = length_coefficients arc_square 23 (odds * odds) square_length sine_steps (pos 1 ∷ []) 0 1 (lit≤ tt)

cosine_length : length cosine_of_arc ≤ 162
unfolding cosine_of_arc degree
cosine_length = length_coefficients arc_square 23 (odds * odds) square_length cosine_steps (pos 1 ∷ []) 0 1 (lit≤ tt)

power_square : (o : ℕ) → power o 15 ≡ o * power (o * o) 7
unfolding power
power_square o = omega arith

module _ (a b : ℕ) where
  -- the value of a list at a² / b², times a power of b²
  abbrev pub at : ℕ → List ℤ → ℤ
  at e g = value_at (pos (a * a)) (b * b) e g

  -- ---- the arc's fraction, and its square

  steps_is : numerator (pos (a * a)) (b * b) (stages_of_arc arc_row) (pos 1) 23 ≡ at 11 arc_list
  unfolding arc_list degree
  steps_is = plain (pos (a * a)) (b * b) (stages_of_arc arc_row) 23

  steps_denominator : denominator (b * b) (stages_of_arc arc_row) 23 ≡ odds * power (b * b) 11
  unfolding degree
  steps_denominator =
      plain_denominator (b * b) (stages_of_arc arc_row) 23 ∙ ap (λ s. s * power (b * b) 11) odds_is

  numerator_arc : arc_numerator a b ≡ pos a *ℤ at 11 arc_list
  unfolding arc_numerator
  numerator_arc = ap (λ x. pos a *ℤ x) steps_is

  denominator_arc : arc_denominator a b ≡ b * (odds * power (b * b) 11)
  unfolding arc_denominator
  denominator_arc = ap (λ x. b * x) steps_denominator

  numerator_square : arc_numerator a b *ℤ arc_numerator a b ≡ at 23 arc_square
  unfolding arc_square
  numerator_square =
      rw (
        numerator_arc,
        value_shift (pos (a * a)) (b * b) 22 (times arc_list arc_list),
        value_times (pos (a * a)) (b * b) 11 11 arc_list arc_list arc_length arc_length,
      )
      (ring (pos a ∷ at 11 arc_list ∷ []) (v0 ⊗ v1 ⊗ (v0 ⊗ v1)) (v0 ⊗ v0 ⊗ (v1 ⊗ v1)) tt)

  denominator_square : arc_denominator a b * arc_denominator a b ≡ odds * odds * power (b * b) 23
  denominator_square = rw (denominator_arc, power_suc (b * b) 22, power_add (b * b) 11 11) (omega arith)

  -- ---- the two series there

  sine_of_arc_lem : value_at (arc_numerator a b *ℤ arc_numerator a b) (arc_denominator a b * arc_denominator a b) 7 sine_list
      ≡ at 161 sine_of_arc
  unfolding sine_of_arc degree
  sine_of_arc_lem = sine_at (pos (a * a)) (b * b) arc_square 23 (odds * odds) square_length
      (arc_numerator a b *ℤ arc_numerator a b) (arc_denominator a b * arc_denominator a b)
      numerator_square denominator_square

  cosine_of_arc_lem : value_at (arc_numerator a b *ℤ arc_numerator a b) (arc_denominator a b * arc_denominator a b) 7 cosine_list
      ≡ at 161 cosine_of_arc
  unfolding cosine_of_arc degree
  cosine_of_arc_lem = cosine_at (pos (a * a)) (b * b) arc_square 23 (odds * odds) square_length
      (arc_numerator a b *ℤ arc_numerator a b) (arc_denominator a b * arc_denominator a b)
      numerator_square denominator_square

  gap_is : at 172 arc_gap
      ≡ pos (15 * odds) *ℤ (pos (power (b * b) 11) *ℤ at 161 cosine_of_arc)
      +ℤ negsuc 0 *ℤ (at 11 arc_list *ℤ at 161 sine_of_arc)
  unfolding arc_gap
  gap_is =
      let z = pos (a * a) in
      let o = b * b in
      rw (
        value_plus z o 172 (scale (pos (15 * odds)) cosine_of_arc) (scale (negsuc 0) (times arc_list sine_of_arc)),
        value_scale z o 172 (pos (15 * odds)) cosine_of_arc,
        value_scale z o 172 (negsuc 0) (times arc_list sine_of_arc),
        raises z o 11 161 cosine_of_arc cosine_length,
        value_times z o 11 161 arc_list sine_of_arc arc_length sine_length,
      )

  -- ---- the identity

  pub arc_identity : cosine_series (arc_numerator a b) (arc_denominator a b) *ℤ pos a
      -ℤ sine_series (arc_numerator a b) (arc_denominator a b) *ℤ pos b
      ≡ pos (a * b) *ℤ at 172 arc_gap
  arc_identity =
      rw (
        cosine_is (arc_numerator a b) (arc_denominator a b),
        sine_is (arc_numerator a b) (arc_denominator a b),
        cosine_of_arc_lem,
        sine_of_arc_lem,
        gap_is,
        numerator_arc,
        denominator_arc,
      )
      (out (pos a) (pos b) (pos (power (b * b) 11)) (at 11 arc_list) (at 161 sine_of_arc) (at 161 cosine_of_arc))
    where
      out : (a b w x s c : ℤ) → pos 15 *ℤ (b *ℤ (pos odds *ℤ w)) *ℤ c *ℤ a -ℤ a *ℤ x *ℤ s *ℤ b
          ≡ a *ℤ b *ℤ (pos (15 * odds) *ℤ (w *ℤ c) +ℤ negsuc 0 *ℤ (x *ℤ s))
      out a b w x s c = ring (a ∷ b ∷ w ∷ x ∷ s ∷ c ∷ [])
          (lit (pos 15) ⊗ (v1 ⊗ (lit (pos odds) ⊗ v2)) ⊗ v5 ⊗ v0 ⊖ v0 ⊗ v3 ⊗ v4 ⊗ v1)
          (v0 ⊗ v1 ⊗ (lit (pos (15 * odds)) ⊗ (v2 ⊗ v5) ⊕ lit (negsuc 0) ⊗ (v3 ⊗ v4))) tt

  pub whole_arc : whole (arc_denominator a b) ≡ arc_scale * (b * power (b * b) 172)
  unfolding arc_scale
  whole_arc =
      rw (
        whole_power (arc_denominator a b),
        denominator_arc,
        power_mul b (odds * power (b * b) 11) 15,
        power_mul odds (power (b * b) 11) 15,
        power_power (b * b) 11 15,
        power_square b,
        power_add (b * b) 7 165,
      )
      (omega arith)
