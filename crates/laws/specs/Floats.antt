-- A float that lies in a range of whole numbers: its size, and the range of its tenths.
use Rattle.std.specs.Prelude.{◌≡◌, [], ◌∷◌, true, ℕ, ◌*◌, ◌<◌, ◌≤◌, ℤ, pos, nat_abs, ◌*ℤ◌, ◌≤ℤ◌, Float}
use Rattle.std.proofs.Common.{arith, pow_pos}
use Rattle.std.specs.Float.{nan, inf, fin}
use Rattle.std.specs.Float.Ieee.Fits.{down_pos}
use Rattle.integers.specs.Difference.{le_z_true}
use Rattle.integers.specs.Size.{abs_is, abs_le, abs_mul_le}
use Rattle.integers.specs.Ring.{ring, v0, v1, lit, ◌⊗◌}
use Rattle.integers.specs.Order.{nonneg_pos, ≤ℤ_mul}
use Rattle.laws.specs.Ranges.{Between, between_iff, both_true, yes}
use Rattle.laws.specs.Nearest.{Nearest, rnd_nearest, nearest_one, rnd_ge, rnd_le_of}
use Rattle.rules.specs.Floats.{finite, numerator, denominator, lies, tenths}

pub denominator_pos : (x : Float) → 0 < denominator x
unfolding denominator
denominator_pos nan = pow_pos 0
denominator_pos (inf s) = pow_pos 0
denominator_pos (fin s m e) = down_pos e

-- ---- what `lies` says

pub record Lies (low high : ℤ) (x : Float) : Type 0 where
  pub finite : finite x ≡ true
  pub above : (low *ℤ pos (denominator x)) ≤ℤ numerator x
  pub below : numerator x ≤ℤ (high *ℤ pos (denominator x))

pub lies_is : (low high : ℤ) (x : Float) → lies low high x ≡ true → Lies low high x
unfolding lies
lies_is low high x e =
    let b = both_true (finite x) _ e in
    let r = (between_iff (low *ℤ pos (denominator x)) (high *ℤ pos (denominator x)) (numerator x)).0 b.1 in
    record { finite = b.0; above = r.above; below = r.below }

-- its size, where n bounds both ends
pub lies_size : (low high : ℤ) (n : ℕ) (x : Float) → nat_abs low ≤ n → nat_abs high ≤ n → Lies low high x
    → nat_abs (numerator x) ≤ n * denominator x
lies_size low high n x hl hh r =
    let D = denominator x in
    let N = numerator x in
    let a = le_z_true (low *ℤ pos D) N (yes _ r.above.le) in
    let b = le_z_true N (high *ℤ pos D) (yes _ r.below.le) in
    abs_le N (n * D)
    (omega (arith, b, abs_is (high *ℤ pos D), abs_mul_le high (pos D) n D hh (omega arith)))
    (omega (arith, a, abs_is (low *ℤ pos D), abs_mul_le low (pos D) n D hl (omega arith)))

-- ---- the range of its tenths

ten_times : (d l : ℤ) → d *ℤ (pos 10 *ℤ l) ≡ pos 10 *ℤ (l *ℤ d)
ten_times d l = ring (d ∷ l ∷ []) (v0 ⊗ (lit (pos 10) ⊗ v1)) (lit (pos 10) ⊗ (v1 ⊗ v0)) tt

pub tenths_between : (low high : ℤ) (x : Float) → Lies low high x
    → Between (pos 10 *ℤ low) (pos 10 *ℤ high) (tenths x)
unfolding tenths
tenths_between low high x r =
    let D = denominator x in
    let N = numerator x in
    record {
      above = rnd_ge (pos 10 *ℤ N) (pos 10 *ℤ low) D (denominator_pos x)
          (rw (ten_times (pos D) low) (≤ℤ_mul (pos 10) (low *ℤ pos D) N (nonneg_pos 10) r.above));
      below = rnd_le_of (pos 10 *ℤ N) (pos 10 *ℤ high) D (denominator_pos x)
          (rw (ten_times (pos D) high) (≤ℤ_mul (pos 10) N (high *ℤ pos D) (nonneg_pos 10) r.below));
    }

-- they are the nearest whole number to ten times the exact value, a half away from zero, and no second number is
pub tenths_nearest : (x : Float) → Nearest (pos 10 *ℤ numerator x) (denominator x) (tenths x)
unfolding tenths
tenths_nearest x = rnd_nearest (pos 10 *ℤ numerator x) (denominator x) (denominator_pos x)

pub tenths_one : (x : Float) (r : ℤ) → Nearest (pos 10 *ℤ numerator x) (denominator x) r → tenths x ≡ r
unfolding tenths
tenths_one x r h = nearest_one (pos 10 *ℤ numerator x) (denominator x) r (denominator_pos x) h
