-- The bound of `ArcSeries`: the series of the cosine and the sine at the arc's series of a / b are in the ratio b to a,
-- nearly.
use Rattle.std.specs.Prelude.{ℕ, ◌*◌, ◌≤◌, nat_abs, ◌-ℤ◌, ◌*ℤ◌}
use Rattle.std.proofs.Common.{mul-le-mul, mul-le-mul_left, mul-le-mul_right, arith, lit<}
use Rattle.std.proofs.Math.IntN.{pos}
use Rattle.integers.specs.Size.{abs_mul}
use Rattle.integers.specs.Power.{power}
use Rattle.integers.specs.Polynomial.{size_at}
use Rattle.integers.specs.Polynomial.{value_le}
use Rattle.rules.specs.Units.{unit}
use Rattle.rules.specs.Series.{whole, sine_series, cosine_series}
use Rattle.laws.specs.Certificates.{arc_gap, arc_scale}
use Rattle.laws.specs.Certificates.{arc_gap_le}
use Rattle.laws.specs.Arc.{arc_numerator, arc_denominator}
use Rattle.laws.specs.ArcSeries.{at, arc_identity, whole_arc}

module _ (a b : ℕ) where
  pub arc_ratio_near : 7 * a ≤ 3 * b
      → 100 * (unit * nat_abs (cosine_series (arc_numerator a b) (arc_denominator a b) *ℤ pos a
      -ℤ sine_series (arc_numerator a b) (arc_denominator a b) *ℤ pos b))
      ≤ 7 * (a * whole (arc_denominator a b))
  arc_ratio_near h =
      let v = at a b 172 arc_gap in
      rw (arc_identity a b, abs_mul (pos (a * b)) v, whole_arc a b)
      (sum a b (nat_abs v) (size_at 9 49 arc_gap) (power (b * b) 172) arc_scale
      (value_le (pos (a * a)) (b * b) 9 49 (lit< tt) (omega (arith, mul-le-mul h h)) 172 arc_gap) arc_gap_le)
    where
      sum : (a b v s w g : ℕ) → v ≤ s * w → 100 * (unit * s) ≤ 7 * g
          → 100 * (unit * (a * b * v)) ≤ 7 * (a * (g * (b * w)))
      sum a b v s w g h k = omega (arith, mul-le-mul_left (a * b) h, mul-le-mul_right (a * b * w) k)
