-- Heights and declinations: within a quarter of nought, and read from two numbers of 32 bits (docs/MATHEMATICS.md,
-- "Ranges of a reading").
use Rattle.std.specs.Prelude.{◌≡◌, refl, Bool, true, false, cond, ℕ, zero, suc, ◌+◌, ◌*◌, ◌-◌, ◌≤◌, ◌<◌, ◌^◌, ℤ, pos, negsuc, nat_abs, ◌-ℤ◌}
use Rattle.std.proofs.Common.{sym, ap, ◌∙◌, arith, lt-ltb, le-ltb}
use Rattle.std.proofs.Math.IntN as numbers
use Rattle.std.specs.Int.Signed.{lt_z}
use Rattle.integers.specs.Difference.{pos_sub, sub_is}
use Rattle.integers.specs.Size.{abs_is, parts_apart}
use Rattle.rules.specs.Units.{unit, circle, half, quarter}
use Rattle.rules.specs.declared.Direction.{Direction}
use Rattle.rules.specs.Length.{root, square, squares}
use Rattle.rules.specs.Turning.{Accepted}
use Rattle.rules.specs.Circle.{square_parts, pair}
use Rattle.rules.specs.Rounding.{rnd, rnd_size}
use Rattle.rules.specs.Reading.{arc_stage, arc_stages, arc, in_microarcseconds, flat, tangent, angle_to_half}
use Rattle.rules.specs.Reading.{angle_to_quarter, by_signs, not_circle, angle_of}
use Rattle.rules.specs.Heights.{as_height, height}
use Rattle.laws.specs.Root.{root_root, root_lt}
use Rattle.laws.specs.Directions.{accepted_parts}
use Rattle.laws.specs.UpTo.{UpTo, up_to_le}
use Rattle.laws.specs.Angles.{pair_circle}
use Rattle.laws.specs.ReadingRange.{angle_to_quarter_range, signs_plus_plus, signs_plus_minus}

-- ---- as large as the angle of the sizes, so within a quarter of nought

first_quarter : (θ : ℤ) → UpTo θ quarter → nat_abs (as_height (not_circle θ)) ≡ nat_abs θ
unfolding as_height not_circle
first_quarter (negsuc n) i = absurd (omega (arith, i.low))
first_quarter (pos n) i = rw (lt-ltb n circle (omega (arith, i.high)), le-ltb half n (omega (arith, i.high)))

last_quarter : (n : ℕ) → n ≤ quarter → nat_abs (as_height (not_circle (pos circle -ℤ pos n))) ≡ n
unfolding as_height not_circle
last_quarter zero i = refl
last_quarter (suc n) i =
    let m = circle - suc n in
    let d = pos m -ℤ pos circle in
    let size : nat_abs d ≡ suc n = omega (arith, sub_is (pos m) (pos circle), abs_is d, parts_apart d) in
    rw (pos_sub circle (suc n) (omega arith), lt-ltb m circle (omega arith), lt-ltb half m (omega arith)) size

pub height_size : (d : ℕ) (z : ℤ) → 0 < d + nat_abs z
    → nat_abs (as_height (angle_of (pos d) z)) ≡ nat_abs (angle_to_quarter d (nat_abs z))
unfolding angle_of
height_size d (pos v) k =
    rw (signs_plus_plus d v (angle_to_quarter d v))
    (first_quarter (angle_to_quarter d v) (angle_to_quarter_range d v k))
height_size d (negsuc v) k =
    rw (signs_plus_minus d v (angle_to_quarter d (suc v)))
    (by (angle_to_quarter d (suc v)) (angle_to_quarter_range d (suc v) k))
  where
    by : (θ : ℤ) → UpTo θ quarter → nat_abs (as_height (not_circle (pos circle -ℤ θ))) ≡ nat_abs θ
    by (negsuc n) i = absurd (omega (arith, i.low))
    by (pos n) i = last_quarter n i.high

some_le : (d : ℕ) (z : ℤ) → 0 < d + nat_abs z → nat_abs (as_height (angle_of (pos d) z)) ≤ quarter
some_le d z k =
    rw (height_size d z k)
    (up_to_le (angle_to_quarter d (nat_abs z)) quarter (angle_to_quarter_range d (nat_abs z) k))

pub as_height_le : (d : ℕ) (z : ℤ) → nat_abs (as_height (angle_of (pos d) z)) ≤ quarter
unfolding as_height rnd rnd_size square_parts arc_stage arc_stages arc in_microarcseconds flat tangent angle_to_half
    angle_to_quarter by_signs not_circle angle_of
as_height_le zero (pos zero) = omega arith
as_height_le zero (pos (suc v)) = some_le zero (pos (suc v)) (omega arith)
as_height_le zero (negsuc v) = some_le zero (negsuc v) (omega arith)
as_height_le (suc d) z = some_le (suc d) z (omega arith)

pub height_le : (v : Direction) → nat_abs (height v) ≤ quarter
unfolding height
height_le v = as_height_le (root (square v.x + square v.y)) v.z

-- ---- the pair of a height is that of its reading

pub as_height_pair : (a : ℤ) → pair (as_height a) ≡ pair a
unfolding as_height
as_height_pair a = by (lt_z (pos half) a)
  where
    by : (t : Bool) → pair (cond t (a -ℤ pos circle) a) ≡ pair a
    by true = sym (pair_circle (a -ℤ pos circle)) ∙ ap pair (numbers.-ℤ-+ℤ_cancel a (pos circle))
    by false = refl

-- ---- an accepted direction gives two numbers of 32 bits

pub record HeightGiven (v : Direction) : Type 0 where
  pub x_le : nat_abs v.x ≤ unit + 1
  pub y_le : nat_abs v.y ≤ unit + 1
  pub z_le : nat_abs v.z ≤ unit + 1
  pub root_le : root (square v.x + square v.y) ≤ unit + 1
  pub some : 0 < root (square v.x + square v.y) + nat_abs v.z

-- a root and a number are not both nought where the sum of their squares is not
not_both : (n : ℕ) (z : ℤ) → n < 2 ^ 64 → 0 < n + square z → 0 < root n + nat_abs z
unfolding square
not_both n z l p = by (root n) (nat_abs z) (root_root n l).above p
  where
    by : (r s : ℕ) → n < (r + 1) * (r + 1) → 0 < n + s * s → 0 < r + s
    by zero zero a q = absurd (omega (arith, a, q))
    by zero (suc s) a q = omega arith
    by (suc r) s a q = omega arith

pub height_fits : (v : Direction) → Accepted (squares v) → HeightGiven v
unfolding squares
height_fits v h =
    let p = accepted_parts v h in
    let n = square v.x + square v.y in
    let k : n < (unit + 2) * (unit + 2) = omega (arith, h.high) in
    record {
      x_le = p.x;
      y_le = p.y;
      z_le = p.z;
      root_le = omega (arith, root_lt n (unit + 2) (omega (arith, h.high)) k);
      some = not_both n v.z (omega (arith, h.high)) (omega (arith, h.low));
    }
