-- Half a quarter less an angle y / d, as a fraction, and the series there and at the angle as lists
-- (docs/MATHEMATICS.md, "Half a quarter less").
use Rattle.std.specs.Prelude.{◌≡◌, [], ◌∷◌, ℕ, ◌*◌, ◌≤◌, length, ℤ, neg_ℤ, ◌-ℤ◌, ◌*ℤ◌}
use native.Mathlib.Omega.{arith}
use Rattle.std.proofs.Common.{lit≤}
use Rattle.std.proofs.Math.IntN.{pos}
use Rattle.integers.specs.Ring.{ring, v0, v1, ◌⊕◌, ◌⊖◌, ◌⊗◌, lit}
use Rattle.integers.specs.Power.{power}
use Rattle.integers.specs.Polynomial.{value_at, length_times, value_times}
use Rattle.integers.specs.SeriesStages.{degree, length_coefficients}
use Rattle.laws.specs.Series.{sine_steps, cosine_steps, sine_list, cosine_list, sine_at, cosine_at}
use Rattle.laws.specs.Certificates.{over, half_quarter_angle, less, less_square, sine_of_less, cosine_of_less, square}
use Rattle.laws.specs.Certificates.{sine_over, cosine_over}

-- half a quarter less y / d, as a fraction
unfoldable pub less_numerator : ℤ → ℕ → ℤ
less_numerator y d = pos (half_quarter_angle * d) -ℤ pos over *ℤ y

unfoldable pub less_denominator : ℕ → ℕ
less_denominator d = over * d

-- ---- lengths of the lists

pub less_length : length less ≤ 2
unfolding less
less_length = lit≤ tt

less_square_length : length less_square ≤ 3
unfolding less_square
less_square_length = length_times less less 1 1 less_length less_length

pub sine_length : length sine_of_less ≤ 15
unfolding sine_of_less degree
sine_length = length_coefficients less_square 2 (over * over) less_square_length sine_steps (pos 1 ∷ []) 0 1 (lit≤ tt)

pub cosine_length : length cosine_of_less ≤ 15
unfolding cosine_of_less degree
cosine_length = length_coefficients less_square 2 (over * over) less_square_length cosine_steps (pos 1 ∷ []) 0 1 (lit≤ tt)

pub over_length : length cosine_over ≤ 15
unfolding cosine_over degree
over_length = length_coefficients square 2 1 (lit≤ tt) cosine_steps (pos 1 ∷ []) 0 1 (lit≤ tt)

module _ (y : ℤ) (d : ℕ) where
  -- ---- the fraction, its square, and the square of y / d

  pub less_is : less_numerator y d ≡ value_at y d 1 less
  unfolding less_numerator less value_at power
  less_is = ring (y ∷ pos d ∷ [])
      (lit (pos half_quarter_angle) ⊗ v1 ⊖ lit (pos over) ⊗ v0)
      (lit (pos half_quarter_angle) ⊗ (v1 ⊗ lit (pos 1)) ⊕ v0 ⊗ lit (neg_ℤ (pos over))) tt

  less_square_lem : less_numerator y d *ℤ less_numerator y d ≡ value_at y d 2 less_square
  unfolding less_square
  less_square_lem = rw (value_times y d 1 1 less less less_length less_length, less_is)

  less_denominator_lem : less_denominator d * less_denominator d ≡ over * over * power d 2
  unfolding less_denominator power
  less_denominator_lem = omega arith

  y_square : y *ℤ y ≡ value_at y d 2 square
  unfolding value_at power
  y_square = ring (y ∷ pos d ∷ []) (v0 ⊗ v0)
      (lit (pos 0) ⊗ (v1 ⊗ (v1 ⊗ lit (pos 1))) ⊕ v0 ⊗ (lit (pos 0) ⊗ (v1 ⊗ lit (pos 1)) ⊕ v0 ⊗ lit (pos 1))) tt

  d_square : d * d ≡ 1 * power d 2
  unfolding power
  d_square = omega arith

  -- ---- the series as lists

  pub sine_of_less_lem :
      value_at (less_numerator y d *ℤ less_numerator y d) (less_denominator d * less_denominator d) 7 sine_list
      ≡ value_at y d 14 sine_of_less
  unfolding sine_of_less degree
  sine_of_less_lem = sine_at y d less_square 2 (over * over) less_square_length (less_numerator y d *ℤ less_numerator y d)
      (less_denominator d * less_denominator d) less_square_lem less_denominator_lem

  pub cosine_of_less_lem :
      value_at (less_numerator y d *ℤ less_numerator y d) (less_denominator d * less_denominator d) 7 cosine_list
      ≡ value_at y d 14 cosine_of_less
  unfolding cosine_of_less degree
  cosine_of_less_lem = cosine_at y d less_square 2 (over * over) less_square_length (less_numerator y d *ℤ less_numerator y d)
      (less_denominator d * less_denominator d) less_square_lem less_denominator_lem

  pub sine_over_lem : value_at (y *ℤ y) (d * d) 7 sine_list ≡ value_at y d 14 sine_over
  unfolding sine_over degree
  sine_over_lem = sine_at y d square 2 1 (lit≤ tt) (y *ℤ y) (d * d) y_square d_square

  pub cosine_over_lem : value_at (y *ℤ y) (d * d) 7 cosine_list ≡ value_at y d 14 cosine_over
  unfolding cosine_over degree
  cosine_over_lem = cosine_at y d square 2 1 (lit≤ tt) (y *ℤ y) (d * d) y_square d_square
