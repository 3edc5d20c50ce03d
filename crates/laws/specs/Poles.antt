-- A height is a quarter exactly where its direction lies on the axis: one part of 2^30 off it already reads less
-- (docs/MATHEMATICS.md, "The quarter of a height").
use Rattle.std.specs.Prelude.{◌≡◌, refl, ◌↔◌, ℕ, zero, suc, ◌+◌, ◌*◌, ◌≤◌, ◌<◌, ◌^◌, ℤ, pos, negsuc, nat_abs}
use Rattle.std.proofs.Common.{sym, ap, ◌∙◌, lt_of_not-le, arith}
use Rattle.std.proofs.Math.Decide.{dec_le}
use Rattle.integers.specs.Difference.{pos_sub}
use Rattle.rules.specs.declared.Direction.{Direction}
use Rattle.rules.specs.Units.{quarter, half_quarter}
use Rattle.rules.specs.Rounding.{rnd, rnd_size}
use Rattle.rules.specs.Length.{root, square, squares}
use Rattle.rules.specs.Circle.{square_parts}
use Rattle.rules.specs.Turning.{Accepted}
use Rattle.rules.specs.Reading.{arc_stage, arc_stages, arc, in_microarcseconds, angle_to_half, angle_to_quarter}
use Rattle.rules.specs.Heights.{height}
use Rattle.laws.specs.Rounding.{rnd_pos, rnd_size_zero}
use Rattle.laws.specs.Root.{root_root, root_lt}
use Rattle.laws.specs.UpTo.{UpTo, up_to_le}
use Rattle.laws.specs.ReadingRange.{angle_flat, angle_to_half_range, angle_wide}
use Rattle.laws.specs.ReadingRange.{angle_high}
use Rattle.laws.specs.Heights.{HeightGiven, height_size, height_fits}
use Rattle.laws.specs.ArcNotNought.{angle_to_half_some}

-- ---- the angle to a quarter is a quarter exactly where h is nought

below_quarter : (h v : ℕ) → 0 < h → v ≤ 2 ^ 31 → nat_abs (angle_to_quarter h v) < quarter
below_quarter h v i k = by (dec_le v h)
  where
    by : Dec (v ≤ h) → nat_abs (angle_to_quarter h v) < quarter
    by (yes l) = rw (angle_wide h v l)
        (omega (arith, up_to_le (angle_to_half v h) half_quarter (angle_to_half_range v h i l)))
    by (no l) =
        let j : h < v = lt_of_not-le l in
        let a = angle_to_half_some h v i (omega arith) k in
        let r : UpTo (pos a.size) half_quarter =
        rw (sym a.is) (angle_to_half_range h v (omega arith) (omega arith)) in
        rw (angle_high h v j, a.is, pos_sub quarter a.size (omega (arith, r.high)))
        (omega (arith, a.low, r.high))

arc_of_nought : in_microarcseconds (arc (pos 0)) ≡ pos 0
unfolding in_microarcseconds rnd arc arc_stages arc_stage square_parts rnd_size
arc_of_nought = refl

at_quarter : (v : ℕ) → 0 < v → nat_abs (angle_to_quarter 0 v) ≡ quarter
at_quarter v k = rw (angle_high 0 v k, angle_flat 0 v (omega arith), rnd_pos 0 v, rnd_size_zero v, arc_of_nought)

-- ---- a height

root_nought : (n : ℕ) → n < 2 ^ 64 → root n ≡ 0 → n ≡ 0
root_nought n l e = go (root n) e (root_root n l).above
  where
    go : (r : ℕ) → r ≡ 0 → n < (r + 1) * (r + 1) → n ≡ 0
    go zero e a = omega (arith, a)
    go (suc r) e a = absurd (omega (arith, e))

square_nought : (z : ℤ) → square z ≡ 0 → z ≡ pos 0
unfolding square
square_nought (pos zero) e = refl
square_nought (pos (suc n)) e = absurd (omega (arith, e))
square_nought (negsuc n) e = absurd (omega (arith, e))

square_of_nought : (z : ℤ) → z ≡ pos 0 → square z ≡ 0
unfolding square
square_of_nought z e = rw e

-- with the sum of the two squares apart
by_root : (n : ℕ) (v : Direction) → HeightGiven v → n ≡ square v.x + square v.y → n < 2 ^ 64
    → nat_abs (height v) ≡ quarter → n ≡ 0
unfolding height
by_root n v g e l q = go (root n) refl
  where
    size : nat_abs (height v) ≡ nat_abs (angle_to_quarter (root n) (nat_abs v.z))
    size = rw e (height_size (root (square v.x + square v.y)) v.z g.some)

    go : (r : ℕ) → root n ≡ r → n ≡ 0
    go zero f = root_nought n l f
    go (suc r) f =
        let b = below_quarter (root n) (nat_abs v.z) (omega (arith, f)) (omega (arith, g.z_le)) in
        absurd (omega (arith, q, size, b))

on_axis : (v : Direction) → HeightGiven v → v.x ≡ pos 0 → v.y ≡ pos 0 → nat_abs (height v) ≡ quarter
unfolding height
on_axis v g ex ey =
    let n = square v.x + square v.y in
    let z = nat_abs v.z in
    let e : n ≡ 0 = omega (arith, square_of_nought v.x ex, square_of_nought v.y ey) in
    let r : root n ≡ 0 = omega (arith, root_lt n 1 (omega (arith, e)) (omega (arith, e))) in
    height_size (root n) v.z g.some
    ∙ ap (λ k. nat_abs (angle_to_quarter k z)) r
    ∙ at_quarter z (omega (arith, g.some, r))

pub quarter_iff : (v : Direction) → Accepted (squares v) → nat_abs (height v) ≡ quarter ↔ (v.x ≡ pos 0) × (v.y ≡ pos 0)
unfolding squares
quarter_iff v h = (only, there)
  where
    n : ℕ
    n = square v.x + square v.y

    small : n < 2 ^ 64
    small = omega (arith, h.high)

    only : nat_abs (height v) ≡ quarter → (v.x ≡ pos 0) × (v.y ≡ pos 0)
    only q =
        let e = by_root n v (height_fits v h) refl small q in
        (square_nought v.x (omega (arith, e)), square_nought v.y (omega (arith, e)))

    there : (v.x ≡ pos 0) × (v.y ≡ pos 0) → nat_abs (height v) ≡ quarter
    there e = on_axis v (height_fits v h) e.0 e.1
