-- The raw pair's length, and the pair brought to length, for x from nought to half a quarter (docs/MATHEMATICS.md,
-- "The length of the raw pair"): the length is within two parts of 2^30 and so never nought, no part moves by more than
-- two, and the pair comes out accepted.
use Rattle.std.specs.Prelude.{◌≡◌, [], ◌∷◌, ℕ, ◌+◌, ◌*◌, ◌-◌, ◌≤◌, ◌<◌, ◌^◌, ℤ, ◌-ℤ◌, ◌*ℤ◌}
use Rattle.std.proofs.Common.{ap, subst, arith, lit<, lit≤}
use Rattle.std.proofs.Math.Nat.{le_trans}
use Rattle.std.proofs.Math.IntN.{pos, nat_abs}
use Rattle.integers.specs.Difference.{sub_is, pos_sub}
use Rattle.integers.specs.Size.{abs_sub, abs_is, abs_le, square_abs}
use Rattle.integers.specs.Ring.{ring, v0, v1, ◌⊖◌, ◌⊗◌, lit}
use Rattle.rules.specs.declared.Pair.{Pair}
use Rattle.rules.specs.Units.{unit}
use Rattle.rules.specs.Rounding.{rnd, rnd_size}
use Rattle.rules.specs.Length.{root, square, pair_squares, part_to, pair_to_length}
use Rattle.rules.specs.Turning.{Accepted}
use Rattle.rules.specs.Circle.{square_parts, stage, stages, raw_sine, raw_cosine, pair_of_parts}
use Rattle.rules.specs.Series.{whole, sine_series, cosine_series}
use Rattle.laws.specs.Root.{root_root, root_ge, root_lt}
use Rattle.laws.specs.Length.{part_to_near, le_root, pair_to_length_accepted}
use Rattle.laws.specs.UpTo.{UpTo, up_to_pos, up_to_is, up_to_le, up_to_product}
use Rattle.laws.specs.Near.{Near}
use Rattle.laws.specs.Circle.{half_quarter_parts, unit_up_to, stages_range, square_range, raw_sine_range}
use Rattle.laws.specs.Circle.{raw_cosine_range, raw_sine_near, raw_cosine_near, errors_exact}
use Rattle.laws.specs.CircleSquares.{apart, series_squares, squares_near}

-- ---- of x

-- the pair before it is brought to length, and the length that it is divided by
abbrev pub raw_pair : ℤ → Pair
raw_pair x = record { cosine = raw_cosine x; sine = raw_sine x }

abbrev pub length_of : ℤ → ℕ
length_of x = root (pair_squares (raw_pair x))

self_near : (x : ℤ) → Near x x unit 0
self_near x = record { divisor_pos = lit< tt; near = rw (nought x) (omega arith) }
  where
    nought : (x : ℤ) → x *ℤ pos unit -ℤ pos unit *ℤ x ≡ pos 0
    nought x = ring (x ∷ []) (v0 ⊗ lit (pos unit) ⊖ lit (pos unit) ⊗ v0) (lit (pos 0)) tt

two_of_unit : (l : ℕ) → unit ≤ l + 2 → l ≤ unit + 1 → nat_abs (pos unit -ℤ pos l) ≤ 2
two_of_unit l h k = abs_le (pos unit -ℤ pos l) 2
    (omega (arith, sub_is (pos unit) (pos l))) (omega (arith, sub_is (pos unit) (pos l)))

module _ (x : ℤ) (hx : UpTo x half_quarter_parts) where
  pub raw_squares : (pair_squares (raw_pair x) ≤ 2 ^ 60 + apart) × (2 ^ 60 ≤ pair_squares (raw_pair x) + apart)
  unfolding pair_squares square
  raw_squares =
      let s = raw_sine x in
      let c = raw_cosine x in
      let e = errors_exact in
      let h : 1000 * nat_abs x ≤ 786 * unit = omega (arith, up_to_le x half_quarter_parts hx) in
      let b = squares_near s c (sine_series x unit) (cosine_series x unit) (whole unit)
      (raw_sine_range x hx) (raw_cosine_range x hx)
      (subst (λ g. Near s (sine_series x unit) (whole unit) g) e.0 (raw_sine_near x x unit 0 hx (self_near x) h))
      (subst (λ g. Near c (cosine_series x unit) (whole unit) g) e.1 (raw_cosine_near x x unit 0 hx (self_near x) h))
      (series_squares x (up_to_le x half_quarter_parts hx)) in
      let k = rw (square_abs s, square_abs c) at b in
      let n = nat_abs s * nat_abs s + nat_abs c * nat_abs c in
      let z = pos n -ℤ pos (2 ^ 60) in
      (omega (arith, sub_is (pos n) (pos (2 ^ 60)), abs_is z), omega (arith, sub_is (pos n) (pos (2 ^ 60)), abs_is z))

  -- from 2^30 − 2 to 2^30 + 1
  pub length_near_unit : (unit ≤ length_of x + 2) × (length_of x ≤ unit + 1)
  length_near_unit =
      let n = pair_squares (raw_pair x) in
      let a = raw_squares in
      let h : n < 2 ^ 64 = omega arith in
      (omega (arith, root_ge n (unit - 2) h (omega arith)), omega (arith, root_lt n (unit + 2) h (omega arith)))

  -- the length divided by is never nought
  pub length_of_pos : 0 < length_of x
  length_of_pos = omega (arith, length_near_unit.0)

  below_64 : pair_squares (raw_pair x) < 2 ^ 64
  below_64 = omega (arith, raw_squares.0)

  cosine_le_length : nat_abs (raw_cosine x) ≤ length_of x
  unfolding pair_squares square
  cosine_le_length = le_root (nat_abs (raw_cosine x)) (pair_squares (raw_pair x)) (length_of x) (omega arith)
      (root_root (pair_squares (raw_pair x)) below_64)

  sine_le_length : nat_abs (raw_sine x) ≤ length_of x
  unfolding pair_squares square
  sine_le_length = le_root (nat_abs (raw_sine x)) (pair_squares (raw_pair x)) (length_of x) (omega arith)
      (root_root (pair_squares (raw_pair x)) below_64)

  -- bringing to length moves neither part by more than two
  pub cosine_moved : nat_abs ((pair_of_parts x).cosine -ℤ raw_cosine x) ≤ 2
  unfolding pair_of_parts pair_to_length
  cosine_moved = le_trans (part_to_near (raw_cosine x) (length_of x) length_of_pos cosine_le_length)
      (two_of_unit (length_of x) length_near_unit.0 length_near_unit.1)

  pub sine_moved : nat_abs ((pair_of_parts x).sine -ℤ raw_sine x) ≤ 2
  unfolding pair_of_parts pair_to_length
  sine_moved = le_trans (part_to_near (raw_sine x) (length_of x) length_of_pos sine_le_length)
      (two_of_unit (length_of x) length_near_unit.0 length_near_unit.1)

  -- neither part is negative or above 2^30
  part_range : (a : ℤ) (b : ℕ) → UpTo a b → nat_abs a ≤ length_of x → UpTo (part_to (length_of x) a) unit
  unfolding part_to
  part_range a b h k = rw (up_to_is a b h)
      (up_to_product (pos (nat_abs a)) (pos unit) (length_of x) unit (length_of x) unit (up_to_pos (nat_abs a) (length_of x) k)
      unit_up_to length_of_pos (omega arith))

  pub cosine_range : UpTo (pair_of_parts x).cosine unit
  unfolding pair_of_parts pair_to_length
  cosine_range = part_range (raw_cosine x) unit (raw_cosine_range x hx) cosine_le_length

  pub sine_range : UpTo (pair_of_parts x).sine unit
  unfolding pair_of_parts pair_to_length
  sine_range = part_range (raw_sine x) half_quarter_parts (raw_sine_range x hx) sine_le_length

  pub pair_of_parts_accepted : Accepted (pair_squares (pair_of_parts x))
  unfolding pair_of_parts
  pair_of_parts_accepted = pair_to_length_accepted (raw_pair x) below_64 (omega (arith, length_near_unit.0))

  -- the cosine is well above nought
  raw_cosine_high : 2 ^ 29 ≤ nat_abs (raw_cosine x)
  unfolding raw_cosine stages stage rnd_size
  raw_cosine_high =
      let w = square_parts x in
      let p = stages w (132 ∷ 90 ∷ 56 ∷ 30 ∷ 12 ∷ []) (pos unit) in
      let i : UpTo p unit = stages_range w (132 ∷ 90 ∷ 56 ∷ 30 ∷ 12 ∷ []) (square_range x hx) tt in
      high (rnd (w *ℤ p) (unit * 2))
      (up_to_product w p unit unit (unit * 2) (2 ^ 29) (square_range x hx) i (lit< tt) (lit≤ tt))
    where
      high : (z : ℤ) → UpTo z (2 ^ 29) → 2 ^ 29 ≤ nat_abs (pos unit -ℤ z)
      high z h = rw (up_to_is z (2 ^ 29) h, pos_sub unit (nat_abs z) (omega (arith, up_to_le z (2 ^ 29) h)))
          (omega (arith, up_to_le z (2 ^ 29) h))

  pub cosine_high : 2 ^ 29 ≤ nat_abs (pair_of_parts x).cosine + 2
  cosine_high = omega (arith, raw_cosine_high, back (raw_cosine x) (pair_of_parts x).cosine, cosine_moved)
    where
      other : (p q : ℤ) → q -ℤ (q -ℤ p) ≡ p
      other p q = ring (p ∷ q ∷ []) (v1 ⊖ (v1 ⊖ v0)) v0 tt

      back : (p q : ℤ) → nat_abs p ≤ nat_abs q + nat_abs (q -ℤ p)
      back p q = rw (ap nat_abs (other p q)) at (abs_sub q (q -ℤ p))
