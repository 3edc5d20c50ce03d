-- The raw sine and cosine of x, from nought to half a quarter: their ranges, and how near they are to the series at ANY
-- fraction y / d of a radian that x is near (docs/MATHEMATICS.md, "Sine and cosine near their series"). The errors
-- compute, from that of x.
use Rattle.std.specs.Prelude.{◌≡◌, refl, List, [], ◌∷◌, ℕ, ◌+◌, ◌*◌, ◌/◌, ◌≤◌, ◌<◌, T, ℤ, pos, nat_abs, ◌-ℤ◌, ◌*ℤ◌}
use Rattle.std.proofs.Common.{mul-le-mul, mul-le-mul_left, mul-pos, arith, lit<, lit≤}
use Rattle.integers.specs.Size.{abs_mul, abs_sub}
use Rattle.integers.specs.Ring.{ring, v0, v1, v2, ◌⊖◌, ◌⊗◌, lit}
use Rattle.integers.specs.SeriesStages.{numerator, denominator}
use Rattle.rules.specs.Units.{unit}
use Rattle.rules.specs.Rounding.{rnd_size}
use Rattle.rules.specs.Circle.{square_parts, stages, sine_row, cosine_row, raw_sine, raw_cosine}
use Rattle.rules.specs.Series.{whole, sine_series, cosine_series}
use Rattle.laws.specs.UpTo.{UpTo, up_to_pos, up_to_le, up_to_product}
use Rattle.laws.specs.Near.{Near, near_product_one, near_scale}
use Rattle.laws.specs.RoundedStages.{error, first_error, rises, stages_of_circle, stages_worked, after_stages_range, chain, Worked}
use Rattle.laws.specs.Series.{sine_steps, cosine_steps, sine_by_steps, cosine_by_steps, sine_whole, cosine_whole}

-- x of half a quarter
abbrev pub half_quarter_parts : ℕ
half_quarter_parts = 843314857

-- ---- the terms that the rows leave out: a whole against 1 − (z / k) (n / d)

left_out : (z n : ℤ) (o d k e : ℕ) → 0 < k * (o * d) → 1000 * (unit * (nat_abs z * nat_abs n)) ≤ e * (k * (o * d))
    → Near (pos unit) (pos (k * (o * d)) -ℤ pos 1 *ℤ (z *ℤ n)) (1 * (k * (o * d))) e
left_out z n o d k e hd h = record {
  divisor_pos = omega arith;
  near = rw (out (pos unit) (pos (k * (o * d))) (z *ℤ n))
      (omega (arith, abs_mul (pos unit) (z *ℤ n), abs_mul z n));
}
  where
    out : (b d t : ℤ) → b *ℤ (pos 1 *ℤ d) -ℤ b *ℤ (d -ℤ pos 1 *ℤ t) ≡ b *ℤ t
    out b d t = ring (b ∷ d ∷ t ∷ [])
        (v0 ⊗ (lit (pos 1) ⊗ v1) ⊖ v0 ⊗ (v1 ⊖ lit (pos 1) ⊗ v2)) (v0 ⊗ v2) tt

-- those errors, in thousandths of a part
abbrev sine_left_out : ℕ
sine_left_out = 4280000000

abbrev cosine_left_out : ℕ
cosine_left_out = 3650000000

module _ (z : ℤ) (o : ℕ) (ho : 0 < o) (h : 1000 * nat_abs z ≤ 618 * o) where
  abbrev sine_rest : ℤ
  sine_rest = pos (210 * (o * 1)) -ℤ pos 1 *ℤ (z *ℤ pos 1)

  sine_left_out_lem : Near (pos unit) (pos (156 * (o * (1 * (210 * (o * 1))))) -ℤ pos 1 *ℤ (z *ℤ sine_rest))
      (1 * (156 * (o * (1 * (210 * (o * 1)))))) sine_left_out
  sine_left_out_lem =
      let k : nat_abs sine_rest ≤ 211 * o = omega (
        arith,
        abs_sub (pos (210 * (o * 1))) (pos 1 *ℤ (z *ℤ pos 1)),
        abs_mul (pos 1) (z *ℤ pos 1),
        abs_mul z (pos 1),
      ) in
      left_out z sine_rest o (1 * (210 * (o * 1))) 156 sine_left_out (omega (arith, mul-pos ho ho))
      (omega (arith, mul-le-mul h k))

  cosine_left_out_lem : Near (pos unit) (pos (182 * (o * 1)) -ℤ pos 1 *ℤ (z *ℤ pos 1)) (1 * (182 * (o * 1))) cosine_left_out
  cosine_left_out_lem = left_out z (pos 1) o 1 182 cosine_left_out (omega arith) (omega arith)

-- ---- the errors, from that of x

unfoldable pub square_error : ℕ → ℕ
square_error ε = (500000 + 1572 * ε + 999) / 1000

unfoldable pub sine_error : ℕ → ℕ
sine_error ε = (500000 + 786 * error 618 (square_error ε) (stages_of_circle sine_row) sine_left_out + 1000 * ε + 999) / 1000

unfoldable pub cosine_error : ℕ → ℕ
cosine_error ε = error 618 (square_error ε) (stages_of_circle cosine_row) cosine_left_out

-- ---- ranges

sine_rises : T (rises (stages_of_circle sine_row) unit)
unfolding rnd_size
sine_rises = tt

cosine_rises : T (rises (stages_of_circle cosine_row) unit)
unfolding rnd_size
cosine_rises = tt

pub unit_up_to : UpTo (pos unit) unit
unit_up_to = up_to_pos unit unit (lit≤ tt)

-- a row's value, from whatever w of its range
pub stages_range : (w : ℤ) (ks : List ℕ) → UpTo w unit → T (rises (stages_of_circle ks) unit)
    → UpTo (stages w ks (pos unit)) unit
stages_range w ks i h = rw (stages_worked w ks (pos unit)) (after_stages_range w (stages_of_circle ks) (pos unit) unit i h unit_up_to)

module _ (x : ℤ) (hx : UpTo x half_quarter_parts) where
  pub square_range : UpTo (square_parts x) unit
  unfolding square_parts
  square_range = up_to_product x x half_quarter_parts half_quarter_parts unit unit hx hx (lit< tt) (lit≤ tt)

  pub sine_stages_range : UpTo (stages (square_parts x) sine_row (pos unit)) unit
  sine_stages_range = stages_range (square_parts x) sine_row square_range sine_rises

  -- the sine is no larger than x
  pub raw_sine_range : UpTo (raw_sine x) half_quarter_parts
  unfolding raw_sine
  raw_sine_range = up_to_product x (stages (square_parts x) sine_row (pos unit)) half_quarter_parts unit unit half_quarter_parts
      hx sine_stages_range (lit< tt) (lit≤ tt)

  pub raw_cosine_range : UpTo (raw_cosine x) unit
  unfolding raw_cosine
  raw_cosine_range = stages_range (square_parts x) cosine_row square_range cosine_rises

-- ---- nearness

module _ (x y : ℤ) (d ε : ℕ) (hx : UpTo x half_quarter_parts) (hn : Near x y d ε) (hy : 1000 * nat_abs y ≤ 786 * d) where
  square_near : Near (square_parts x) (y *ℤ y) (d * d) (square_error ε)
  unfolding square_parts square_error
  square_near = near_product_one x x y y d d 786 786 ε ε ((500000 + 1572 * ε + 999) / 1000) hn hn hy
      (omega (arith, up_to_le x half_quarter_parts hx)) (omega arith)

  square_le : 1000 * nat_abs (y *ℤ y) ≤ 618 * (d * d)
  square_le = rw (abs_mul y y) (omega (arith, mul-le-mul hy hy))

  -- a row, where a whole stands for n / c, the terms that the row leaves out
  row_worked : (ks : List ℕ) (n : ℤ) (c e : ℕ) → T (rises (stages_of_circle ks) unit) → Near (pos unit) n c e
      → Worked (stages (square_parts x) ks (pos unit)) (numerator (y *ℤ y) (d * d) (stages_of_circle ks) n c)
      (denominator (d * d) (stages_of_circle ks) c) (error 618 (square_error ε) (stages_of_circle ks) e)
  row_worked ks n c e h k = rw (stages_worked (square_parts x) ks (pos unit))
      (chain (square_parts x) (y *ℤ y) (d * d) (square_error ε) 618 square_near (square_range x hx) square_le
      (stages_of_circle ks) (pos unit) n c e unit h k unit_up_to)

  sine_worked : Worked (stages (square_parts x) sine_row (pos unit)) (numerator (y *ℤ y) (d * d) sine_steps (pos 1) 1)
      (denominator (d * d) sine_steps 1) (error 618 (square_error ε) (stages_of_circle sine_row) sine_left_out)
  unfolding numerator denominator
  sine_worked = row_worked sine_row _ _ sine_left_out sine_rises
      (sine_left_out_lem (y *ℤ y) (d * d) square_near.divisor_pos square_le)

  pub raw_sine_near : Near (raw_sine x) (sine_series y d) (whole d) (sine_error ε)
  unfolding raw_sine sine_error
  raw_sine_near =
      let p = stages (square_parts x) sine_row (pos unit) in
      let g = error 618 (square_error ε) (stages_of_circle sine_row) sine_left_out in
      rw (sine_by_steps y d, sine_whole d)
      (near_product_one x p y (numerator (y *ℤ y) (d * d) sine_steps (pos 1) 1) d (denominator (d * d) sine_steps 1)
      786 1000 ε g ((500000 + 786 * g + 1000 * ε + 999) / 1000) hn sine_worked.near hy
      (mul-le-mul_left 1000 (up_to_le p unit sine_worked.range)) (omega arith))

  cosine_worked : Worked (stages (square_parts x) cosine_row (pos unit))
      (numerator (y *ℤ y) (d * d) cosine_steps (pos 1) 1) (denominator (d * d) cosine_steps 1)
      (error 618 (square_error ε) (stages_of_circle cosine_row) cosine_left_out)
  unfolding numerator denominator
  cosine_worked = row_worked cosine_row _ _ cosine_left_out cosine_rises
      (cosine_left_out_lem (y *ℤ y) (d * d) square_near.divisor_pos square_le)

  pub raw_cosine_near : Near (raw_cosine x) (cosine_series y d) (whole d) (cosine_error ε)
  unfolding raw_cosine cosine_error
  raw_cosine_near =
      rw (cosine_by_steps y d, cosine_whole d)
      (near_scale (15 * d) (stages (square_parts x) cosine_row (pos unit))
      (numerator (y *ℤ y) (d * d) cosine_steps (pos 1) 1) (denominator (d * d) cosine_steps 1)
      (error 618 (square_error ε) (stages_of_circle cosine_row) cosine_left_out) (omega (arith, hn.divisor_pos))
      cosine_worked.near)

-- the errors where x is exact, where it is the x of an angle, and where it is the θ of a reading
pub errors_exact : (sine_error 0 ≡ 1011) × (cosine_error 0 ≡ 927)
unfolding sine_error cosine_error square_error error first_error rnd_size
errors_exact = (refl, refl)

pub errors_angle : (sine_error 540 ≡ 1665) × (cosine_error 540 ≡ 1374)
unfolding sine_error cosine_error square_error error first_error rnd_size
errors_angle = (refl, refl)

pub errors_reading : (sine_error 2600 ≡ 4163) × (cosine_error 2600 ≡ 3078)
unfolding sine_error cosine_error square_error error first_error rnd_size
errors_reading = (refl, refl)
