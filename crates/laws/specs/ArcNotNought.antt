-- The angle of two sizes is not nought where neither size is (docs/MATHEMATICS.md, "The quarter of a height").
use Rattle.std.specs.Prelude.{◌≡◌, refl, List, [], ◌∷◌, ℕ, zero, suc, ◌+◌, ◌*◌, ◌-◌, ◌≤◌, ◌<◌, ◌^◌, ℤ, pos, nat_abs, ◌-ℤ◌, ◌*ℤ◌}
use Rattle.std.proofs.Common.{sym, ap, ◌∙◌, lt_of_not-le, mul-le-mul, arith, lit<, lit≤}
use Rattle.std.proofs.Math.Decide.{dec_le}
use Rattle.integers.specs.Difference.{pos_sub}
use Rattle.rules.specs.Units.{unit, half, half_quarter, half_in_parts}
use Rattle.rules.specs.Rounding.{rnd, rnd_size}
use Rattle.rules.specs.Circle.{square_parts}
use Rattle.rules.specs.Reading.{arc_stage, arc_stages, arc_row, arc, in_microarcseconds, angle_to_half}
use Rattle.laws.specs.Rounding.{rnd_pos, rnd_size_low, rnd_size_high}
use Rattle.laws.specs.UpTo.{UpTo, up_to_pos, up_to_is, up_to_le, up_to_of_le, up_to_product}
use Rattle.laws.specs.RoundedStages.{stages_of_arc, arc_stages_worked, after_stages_range}
use Rattle.laws.specs.Arc.{ratio, three_sevenths, first_range, ratio_range, arc_of_ratio_range}
use Rattle.laws.specs.ReadingRange.{microarcseconds_pos, angle_flat, angle_steep}

-- a number of at least so much
pub record AtLeast (least : ℕ) (z : ℤ) : Type 0 where
  pub size : ℕ
  pub is : z ≡ pos size
  pub low : least ≤ size

-- ---- θ is not nought where u is not

-- a fifth of 2^30: w is no larger
abbrev fifth : ℕ
fifth = 214748365

-- the arc's row before its last number, 1
abbrev before_one : List ℕ
before_one = 21 ∷ 19 ∷ 17 ∷ 15 ∷ 13 ∷ 11 ∷ 9 ∷ 7 ∷ 5 ∷ 3 ∷ []

before_one_range : (w : ℤ) → UpTo w unit → UpTo (arc_stages w before_one (rnd (pos unit) 23)) unit
unfolding rnd_size
before_one_range w i =
    rw (arc_stages_worked w before_one (rnd (pos unit) 23))
    (after_stages_range w (stages_of_arc before_one) (rnd (pos unit) 23) (rnd_size unit 23) i tt first_range)

one : rnd (pos unit) 1 ≡ pos unit
unfolding rnd rnd_size
one = refl

-- so the row's value is at least four fifths of a whole
factor_low : (w : ℤ) → UpTo w fifth → AtLeast 858993459 (arc_stages w arc_row (rnd (pos unit) 23))
unfolding arc_stages arc_stage
factor_low w i =
    let p = arc_stages w before_one (rnd (pos unit) 23) in
    let l = rnd (w *ℤ p) unit in
    let r = up_to_product w p fifth unit unit fifth i
    (before_one_range w (up_to_of_le w fifth unit (lit≤ tt) i)) (lit< tt) (lit≤ tt) in
    let k = up_to_le l fifth r in
    record {
      size = unit - nat_abs l;
      is = ap (λ z. rnd (pos unit) 1 -ℤ z) (up_to_is l fifth r) ∙ whole (nat_abs l) k;
      low = omega (arith, k);
    }
  where
    whole : (n : ℕ) → n ≤ fifth → rnd (pos unit) 1 -ℤ pos n ≡ pos (unit - n)
    whole n k = ap (λ z. z -ℤ pos n) one ∙ pos_sub unit n (omega arith)

arc_some : (u : ℕ) → 0 < u → u ≤ three_sevenths → AtLeast 1 (arc (pos u))
unfolding arc square_parts
arc_some u h k =
    let w = rnd (pos u *ℤ pos u) unit in
    let f = factor_low w (up_to_product (pos u) (pos u) three_sevenths three_sevenths unit fifth
    (up_to_pos u three_sevenths k) (up_to_pos u three_sevenths k) (lit< tt) (lit≤ tt)) in
    let n = rnd_size (u * f.size) unit in
    record {
      size = n;
      is = ap (λ z. rnd (pos u *ℤ z) unit) f.is ∙ rnd_pos (u * f.size) unit;
      low = some_left u f.size h f.low;
    }
  where
    some_left : (u p : ℕ) → 0 < u → 858993459 ≤ p → 1 ≤ rnd_size (u * p) unit
    some_left u p h k = by (rnd_size (u * p) unit) (rnd_size_high (u * p) unit (lit< tt)) (mul-le-mul h k)
      where
        by : (n : ℕ) → 2 * (u * p) < 2 * (unit * n) + unit → 1 * 858993459 ≤ u * p → 1 ≤ n
        by zero a b = absurd (omega (arith, a, b))
        by (suc n) a b = omega arith

-- ---- so neither is the angle

microarcseconds_some : (t : ℤ) → AtLeast 1 t → AtLeast 1 (in_microarcseconds t)
microarcseconds_some t h = record {
  size = rnd_size (h.size * half) half_in_parts;
  is = ap in_microarcseconds h.is ∙ microarcseconds_pos h.size;
  low = omega (arith, h.low, rnd_size_high (h.size * half) half_in_parts (lit< tt));
}

-- where the smaller size is not nought
pub angle_to_half_some : (m n : ℕ) → 0 < m → m ≤ n → n ≤ 2 ^ 31 → AtLeast 1 (angle_to_half m n)
angle_to_half_some m n hm h k = by (dec_le (5 * m) (2 * n))
  where
    ratio_some : (m n : ℕ) → 0 < m → 0 < n → n ≤ 2 ^ 31 → 0 < rnd_size (m * unit) n
    ratio_some m n hm hn k = go (rnd_size (m * unit) n) (rnd_size_high (m * unit) n hn)
      where
        go : (r : ℕ) → 2 * (m * unit) < 2 * (n * r) + n → 0 < r
        go zero a = absurd (omega (arith, a))
        go (suc r) a = omega arith

    by : Dec (5 * m ≤ 2 * n) → AtLeast 1 (angle_to_half m n)
    by (yes l) =
        let e = rnd_pos (m * unit) n in
        let u = rnd_size (m * unit) n in
        let r : UpTo (pos u) three_sevenths = rw (sym e) (ratio_range m n (omega arith) (omega arith)) in
        rw (angle_flat m n l, e)
        (microarcseconds_some (arc (pos u)) (arc_some u (ratio_some m n hm (omega arith) k) r.high))
    by (no l) =
        let i : 2 * n < 5 * m = lt_of_not-le l in
        let θ = arc (ratio (n - m) (n + m)) in
        let r = arc_of_ratio_range (n - m) (n + m) (omega arith) (omega arith) in
        let t = nat_abs θ in
        let a = rnd_size (t * half) half_in_parts in
        let b : a < half_quarter =
        omega (arith, rnd_size_low (t * half) half_in_parts, up_to_le θ three_sevenths r) in
        record {
          size = half_quarter - a;
          is = angle_steep m n i
              ∙ ap (λ z. pos half_quarter -ℤ in_microarcseconds z) (up_to_is θ three_sevenths r)
              ∙ ap (λ z. pos half_quarter -ℤ z) (microarcseconds_pos t)
              ∙ pos_sub half_quarter a (omega arith);
          low = omega arith;
        }
