-- Bounds of the sine and the cosine of an angle, from 4,700,000,000 µas to 10,000,000,000 past a quarter. The sine is
-- at least 20,000,000 parts there, so never nought; past a quarter the cosine is not above nought, and just before it,
-- small.
use Rattle.std.specs.Prelude.{◌≡◌, ℤ, pos, neg_ℤ, ◌-ℤ◌, ◌*ℤ◌}
use Rattle.std.proofs.Common.{sym, ap, ◌∙◌, subst, arith, lit<, lit≤}
use mathlib.Core.List.{List, [], ◌∷◌}
use Prim.Native.Nat.{ℕ, ◌+◌, ◌*◌, ◌-◌, ◌≤◌, ◌^◌}
use Rattle.std.proofs.Math.Nat.{mul-le-mul}
use Rattle.std.proofs.Math.Decide.{dec_le}
use Rattle.std.proofs.Math.IntN.{nat_abs}
use Rattle.integers.specs.Difference.{pos_sub}
use Rattle.integers.specs.Size.{abs_mul, abs_neg, abs_moved, abs_moved_back}
use Rattle.rules.specs.declared.Pair.{Pair}
use Rattle.rules.specs.Units.{unit, half, quarter, half_quarter, half_in_parts}
use Rattle.rules.specs.Rounding.{rnd, rnd_size}
use Rattle.rules.specs.Circle.{radian_parts, square_parts, stage, stages, sine_row, raw_sine, pair_of_parts, pair}
use Rattle.laws.specs.Ranges.{InRange}
use Rattle.laws.specs.Rounding.{abs_rnd, rnd_pos, rnd_size_high, rnd_size_low}
use Rattle.laws.specs.UpTo.{UpTo, up_to_is, up_to_le, up_to_of_le, up_to_pos, up_to_product}
use Rattle.laws.specs.RoundedStages.{stages_of_circle, after_stages_range, stages_worked}
use Rattle.laws.specs.Circle.{half_quarter_parts, unit_up_to, square_range, sine_stages_range}
use Rattle.laws.specs.CircleLength.{sine_moved, sine_range, cosine_range, cosine_high}
use Rattle.laws.specs.CircleToHalf.{radian_parts_range}
use Rattle.laws.specs.Angles.{pair_to_half_lem, pair_complement, pair_quarter}

-- ---- of x

module _ (x : ℤ) (hx : UpTo x half_quarter_parts) where
  -- the last factor takes away no more than a sixth of w
  pub factor_from : (b : ℕ) → b ≤ unit → UpTo (square_parts x) (6 * b)
      → unit ≤ b + nat_abs (stages (square_parts x) sine_row (pos unit))
  unfolding stages stage rnd_size
  factor_from b hb h =
      let w = square_parts x in
      let row : List ℕ = 110 ∷ 72 ∷ 42 ∷ 20 ∷ [] in
      let p = stages w row (pos unit) in
      let i : UpTo p unit = rw (stages_worked w row (pos unit))
      (after_stages_range w (stages_of_circle row) (pos unit) unit (square_range x hx) tt unit_up_to) in
      high (rnd (w *ℤ p) (unit * 6)) (up_to_product w p (6 * b) unit (unit * 6) b h i (lit< tt) (omega arith))
    where
      high : (z : ℤ) → UpTo z b → unit ≤ b + nat_abs (pos unit -ℤ z)
      high z k = rw (up_to_is z b k, pos_sub unit (nat_abs z) (omega (arith, up_to_le z b k)))
          (omega (arith, up_to_le z b k))

  factor_high : 894784853 ≤ nat_abs (stages (square_parts x) sine_row (pos unit))
  factor_high =
      let w = square_parts x in
      omega (arith, factor_from 178956971 (lit≤ tt) (up_to_of_le w unit 1073741826 (lit≤ tt) (square_range x hx)))

  raw_sine_high : 24466000 ≤ nat_abs x → 20388000 ≤ nat_abs (raw_sine x)
  unfolding raw_sine
  raw_sine_high h =
      let p = stages (square_parts x) sine_row (pos unit) in
      rw (abs_rnd (x *ℤ p) unit, abs_mul x p)
      (omega (arith, rnd_size_high (nat_abs x * nat_abs p) unit (lit< tt), mul-le-mul h factor_high))

  pub sine_high : 24466000 ≤ nat_abs x → 20000000 ≤ nat_abs (pair_of_parts x).sine
  sine_high h = omega (arith, raw_sine_high h, abs_moved_back (pair_of_parts x).sine (raw_sine x), sine_moved x hx)

  pub raw_sine_low : (b : ℕ) → UpTo x b → nat_abs (raw_sine x) ≤ b
  unfolding raw_sine
  raw_sine_low b h = up_to_le (rnd (x *ℤ stages (square_parts x) sine_row (pos unit)) unit) b
      (up_to_product x (stages (square_parts x) sine_row (pos unit)) b unit unit b h (sine_stages_range x hx) (lit< tt)
      (omega arith))

  pub sine_low : (b : ℕ) → nat_abs x ≤ b → nat_abs (pair_of_parts x).sine ≤ b + 2
  sine_low b h = omega (
    arith,
    raw_sine_low b (subst (λ z. UpTo z b) (sym (up_to_is x half_quarter_parts hx)) (up_to_pos (nat_abs x) b h)),
    abs_moved (pair_of_parts x).sine (raw_sine x),
    sine_moved x hx,
  )

-- ---- of an angle

radian_parts_size : (r : ℕ) → nat_abs (radian_parts (pos r)) ≡ rnd_size (r * half_in_parts) half
unfolding radian_parts
radian_parts_size r = rw (rnd_pos (r * half_in_parts) half)

-- up to half a quarter
sine_from : (r : ℕ) → 4700000000 ≤ r → r ≤ half_quarter → InRange 20000000 unit (pair (pos r)).sine
sine_from r h k =
    let x = radian_parts (pos r) in
    let i = radian_parts_range r k in
    rw (pair_to_half_lem r k) (record {
      is = up_to_is (pair_of_parts x).sine unit (sine_range x i);
      at_least = sine_high x i
          (rw (radian_parts_size r) (omega (arith, rnd_size_high (r * half_in_parts) half (lit< tt))));
      at_most = up_to_le (pair_of_parts x).sine unit (sine_range x i);
    })

cosine_to : (r : ℕ) → r ≤ half_quarter → InRange 20000000 unit (pair (pos r)).cosine
cosine_to r k =
    let x = radian_parts (pos r) in
    let i = radian_parts_range r k in
    rw (pair_to_half_lem r k) (record {
      is = up_to_is (pair_of_parts x).cosine unit (cosine_range x i);
      at_least = omega (arith, cosine_high x i);
      at_most = up_to_le (pair_of_parts x).cosine unit (cosine_range x i);
    })

pub before : (n : ℕ) → n ≤ quarter
    → pair (pos n) ≡ record { cosine = (pair (pos (quarter - n))).sine; sine = (pair (pos (quarter - n))).cosine }
before n h = ap pair (ap pos (omega arith) ∙ sym (pos_sub quarter (quarter - n) (omega arith)))
    ∙ pair_complement (pos (quarter - n))

past : (n : ℕ) → quarter ≤ n
    → pair (pos n)
    ≡ record { cosine = neg_ℤ (pair (pos (n - quarter))).sine; sine = (pair (pos (n - quarter))).cosine }
past n h = ap pair (ap pos (omega arith)) ∙ pair_quarter (pos (n - quarter))

-- the sine
pub sine_between : (n : ℕ) → 4700000000 ≤ n → n ≤ quarter + 10000000000 → InRange 20000000 unit (pair (pos n)).sine
sine_between n h k = by (dec_le n half_quarter) (dec_le n quarter)
  where
    by : Dec (n ≤ half_quarter) → Dec (n ≤ quarter) → InRange 20000000 unit (pair (pos n)).sine
    by (yes i) d = sine_from n h i
    by (no i) (yes j) = rw (before n j) (cosine_to (quarter - n) (omega arith))
    by (no i) (no j) = rw (past n (omega arith)) (cosine_to (n - quarter) (omega arith))

-- past a quarter the cosine is the opposite of a number from nought on
pub cosine_past : (n : ℕ) → quarter ≤ n → n ≤ quarter + 10000000000
    → (pair (pos n)).cosine ≡ neg_ℤ (pos (nat_abs (pair (pos n)).cosine))
cosine_past n h k =
    let m = n - quarter in
    let i = radian_parts_range m (omega arith) in
    rw (past n h, pair_to_half_lem m (omega arith), abs_neg (pair_of_parts (radian_parts (pos m))).sine)
    (ap neg_ℤ (up_to_is (pair_of_parts (radian_parts (pos m))).sine unit (sine_range (radian_parts (pos m)) i)))

-- within 5,000,000,000 µas before a quarter: the cosine is at most 26,100,000 parts, the sine at least 2^29 − 2
pub record NearQuarter (p : Pair) : Type 0 where
  pub cosine_le : nat_abs p.cosine ≤ 26100000
  pub sine_ge : 2 ^ 29 ≤ nat_abs p.sine + 2

pub near_quarter : (n : ℕ) → quarter ≤ n + 5000000000 → n ≤ quarter → NearQuarter (pair (pos n))
near_quarter n h k =
    let m = quarter - n in
    let x = radian_parts (pos m) in
    let i = radian_parts_range m (omega arith) in
    rw (before n k, pair_to_half_lem m (omega arith)) (record {
      cosine_le = omega (
        arith,
        sine_low x i 26050000
            (rw (radian_parts_size m) (omega (arith, rnd_size_low (m * half_in_parts) half))),
      );
      sine_ge = cosine_high x i;
    })
