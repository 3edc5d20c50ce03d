-- How the raw rows go from one x to a larger: the sine rises by no more than x does, and the cosine falls by no more
-- than twice that.
use Rattle.std.specs.Prelude.{◌≡◌, Bool, true, ◌&&◌, List, [], ◌∷◌, ℕ, ◌+◌, ◌*◌, ◌-◌, ◌/◌, ◌≤◌, ◌<◌, T, leb, ℤ, pos, negsuc}
use Rattle.std.proofs.Common.{subst, mul-le-mul, mul-le-mul_right, arith, leb→le, lit<, lit≤}
use Rattle.std.proofs.Math.Facts.{and_yes}
use Rattle.std.proofs.Math.Nat.{mul-le-mul_left}
use Rattle.std.proofs.Math.IntN.{nat_abs}
use Rattle.integers.specs.Difference.{pos_sub}
use Rattle.rules.specs.Units.{unit}
use Rattle.rules.specs.Rounding.{rnd_size}
use Rattle.rules.specs.Circle.{square_parts, stage, stages, sine_row, cosine_row, raw_sine, raw_cosine}
use Rattle.laws.specs.Rounding.{rnd_pos, rnd_size_under, rnd_size_mono, rnd_size_rises}
use Rattle.laws.specs.UpTo.{UpTo, up_to_pos, up_to_is, up_to_le}
use Rattle.laws.specs.Circle.{half_quarter_parts}

-- ---- one stage, for w and for the larger w + d

-- p falls as w grows, by no more than w grows, and stays above w
record Falls (w v : ℕ) (p q : ℤ) : Type 0 where
  first : UpTo p unit
  second : UpTo q unit
  falls : nat_abs q ≤ nat_abs p
  slowly : nat_abs p + w ≤ nat_abs q + v
  high : v ≤ nat_abs q

stage_is : (w a k : ℕ) → rnd_size (w * a) (unit * k) ≤ unit
    → stage (pos w) k (pos a) ≡ pos (unit - rnd_size (w * a) (unit * k))
unfolding stage
stage_is w a k h = rw (rnd_pos (w * a) (unit * k)) (pos_sub unit (rnd_size (w * a) (unit * k)) h)

product_grows : (w d a b : ℕ) → a + w ≤ b + (w + d) → w + d ≤ b → w * a ≤ (w + d) * b
product_grows w d a b h k = omega (arith, mul-le-mul_left w (less h), mul-le-mul_right d k)
  where
    less : a + w ≤ b + (w + d) → a ≤ b + d
    less h = omega arith

product_slow : (w d a b k : ℕ) → 2 ≤ k → b ≤ a → b ≤ unit → (w + d) * b ≤ d * (unit * k) + w * a
product_slow w d a b k i j l = omega (arith, mul-le-mul_left w j, mul-le-mul_left d (more l i))
  where
    more : b ≤ unit → 2 ≤ k → b ≤ unit * k
    more l i = omega arith

half_taken : (v b k m : ℕ) → 2 ≤ k → b ≤ unit → v ≤ 2 * m → v * b ≤ unit * k * m
half_taken v b k m i j l = omega (arith, mul-le-mul_left v j, mul-le-mul_right m i)

stage_falls : (w d k : ℕ) (p q : ℤ) → 3 * (w + d) < 2 * unit → 2 ≤ k → Falls w (w + d) p q
    → Falls w (w + d) (stage (pos w) k p) (stage (pos (w + d)) k q)
stage_falls w d k (negsuc a) q h i f = absurd (omega (arith, f.first.low))
stage_falls w d k (pos a) (negsuc b) h i f = absurd (omega (arith, f.second.low))
stage_falls w d k (pos a) (pos b) h i f =
    let e = unit * k in
    let r = rnd_size (w * a) e in
    let s = rnd_size ((w + d) * b) e in
    let e_pos : 0 < e = omega arith in
    let grows : r ≤ s = rnd_size_mono (w * a) ((w + d) * b) e e e_pos e_pos
    (mul-le-mul_right e (product_grows w d a b f.slowly f.high)) in
    let slow : s ≤ d + r = rnd_size_rises ((w + d) * b) (w * a) d e e_pos
    (product_slow w d a b k i f.falls f.second.high) in
    let least : s ≤ (w + d + 1) / 2 = rnd_size_under ((w + d) * b) e ((w + d + 1) / 2) e_pos
    (half_taken (w + d) b k ((w + d + 1) / 2) i f.second.high (omega arith)) in
    rw (stage_is w a k (omega arith), stage_is (w + d) b k (omega arith)) (record {
      first = up_to_pos (unit - r) unit (omega arith);
      second = up_to_pos (unit - s) unit (omega arith);
      falls = omega arith;
      slowly = omega arith;
      high = omega arith;
    })

-- ---- the stages of a row

abbrev from_two : List ℕ → Bool
from_two [] = true
from_two (k ∷ ks) = leb 2 k && from_two ks

stages_fall : (w d : ℕ) (ks : List ℕ) (p q : ℤ) → 3 * (w + d) < 2 * unit → T (from_two ks) → Falls w (w + d) p q
    → Falls w (w + d) (stages (pos w) ks p) (stages (pos (w + d)) ks q)
unfolding stages
stages_fall w d [] p q h t f = f
stages_fall w d (k ∷ ks) p q h t f =
    let u = and_yes (leb 2 k) (from_two ks) t in
    stages_fall w d ks (stage (pos w) k p) (stage (pos (w + d)) k q) h u.1
    (stage_falls w d k p q h (leb→le 2 k u.0) f)

row_falls : (w v : ℕ) (ks : List ℕ) → w ≤ v → 3 * v < 2 * unit → T (from_two ks)
    → Falls w v (stages (pos w) ks (pos unit)) (stages (pos v) ks (pos unit))
row_falls w v ks h k t =
    let e : w + (v - w) ≡ v = omega arith in
    subst (λ u. Falls w u (stages (pos w) ks (pos unit)) (stages (pos u) ks (pos unit))) e
    (stages_fall w (v - w) ks (pos unit) (pos unit) (omega arith) t (record {
      first = up_to_pos unit unit (lit≤ tt);
      second = up_to_pos unit unit (lit≤ tt);
      falls = lit≤ tt;
      slowly = omega arith;
      high = omega arith;
    }))

-- ---- from x to y

abbrev pub square_size : ℕ → ℕ
square_size x = rnd_size (x * x) unit

square_parts_is : (x : ℕ) → square_parts (pos x) ≡ pos (square_size x)
unfolding square_parts
square_parts_is x = rnd_pos (x * x) unit

square_size_less : (x : ℕ) → x ≤ half_quarter_parts → 3 * square_size x < 2 * unit
square_size_less x h = omega (arith, rnd_size_under (x * x) unit 662400000 (lit< tt) (omega (arith, mul-le-mul h h)))

square_size_grows : (x y : ℕ) → x ≤ y → square_size x ≤ square_size y
square_size_grows x y h = rnd_size_mono (x * x) (y * y) unit unit (lit< tt) (lit< tt)
    (mul-le-mul_right unit (mul-le-mul h h))

-- by at most m for each part, where x + y is at most m units
square_size_slow : (x y m : ℕ) → x ≤ y → x + y ≤ m * unit → square_size y ≤ m * (y - x) + square_size x
square_size_slow x y m h k =
    rnd_size_rises (y * y) (x * x) (m * (y - x)) unit (lit< tt) (of x (y - x) y (omega arith) k)
  where
    of : (x d y : ℕ) → y ≡ x + d → x + y ≤ m * unit → y * y ≤ m * d * unit + x * x
    of x d y e k = rw e (omega (arith, mul-le-mul_left d (rw e at k)))

module _ (x y : ℕ) (h : x ≤ y) (k : y ≤ half_quarter_parts) where
  factor_falls : (ks : List ℕ) → T (from_two ks)
      → Falls (square_size x) (square_size y)
      (stages (square_parts (pos x)) ks (pos unit)) (stages (square_parts (pos y)) ks (pos unit))
  factor_falls ks t = rw (square_parts_is x, square_parts_is y)
      (row_falls (square_size x) (square_size y) ks (square_size_grows x y h) (square_size_less y k) t)

  -- the sine rises by no more than x does
  pub raw_sine_steps : nat_abs (raw_sine (pos y)) ≤ (y - x) + nat_abs (raw_sine (pos x))
  unfolding raw_sine
  raw_sine_steps =
      let p = stages (square_parts (pos x)) sine_row (pos unit) in
      let q = stages (square_parts (pos y)) sine_row (pos unit) in
      let f = factor_falls sine_row tt in
      rw (
        up_to_is p unit f.first,
        up_to_is q unit f.second,
        rnd_pos (x * nat_abs p) unit,
        rnd_pos (y * nat_abs q) unit,
      )
      (rnd_size_rises (y * nat_abs q) (x * nat_abs p) (y - x) unit (lit< tt)
      (of (y - x) (nat_abs p) (nat_abs q) (omega arith) f.falls (up_to_le q unit f.second)))
    where
      of : (d p q : ℕ) → y ≡ x + d → q ≤ p → q ≤ unit → y * q ≤ d * unit + x * p
      of d p q e i j = rw e (omega (arith, mul-le-mul_left x i, mul-le-mul_left d j))

  -- the cosine falls, by no more than the square's parts rise
  pub raw_cosine_falls : nat_abs (raw_cosine (pos y)) ≤ nat_abs (raw_cosine (pos x))
  unfolding raw_cosine
  raw_cosine_falls = (factor_falls cosine_row tt).falls

  pub raw_cosine_steps : (m : ℕ) → x + y ≤ m * unit
      → nat_abs (raw_cosine (pos x)) ≤ m * (y - x) + nat_abs (raw_cosine (pos y))
  unfolding raw_cosine
  raw_cosine_steps m i =
      let f = factor_falls cosine_row tt in
      omega (arith, f.slowly, square_size_slow x y m h i)
