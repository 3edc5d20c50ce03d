-- One turn about axis 3 of an accepted direction by an accepted pair: how far its length can come from 2^30, that it is
-- accepted once brought to length, and how far it then is from the turn with nothing rounded.
use Rattle.std.specs.Prelude.{◌≡◌, [], ◌∷◌, ℕ, ◌+◌, ◌*◌, ◌-◌, ◌≤◌, ◌<◌, ◌^◌, ℤ, ◌+ℤ◌, ◌-ℤ◌, ◌*ℤ◌}
use Rattle.std.proofs.Common.{sym, ap, subst, mul-le-mul_left, mul-le-mul_right, le_trans, lt_of_not-le, arith, lit<, lit≤}
use Rattle.std.proofs.Math.Nat.{mul-le-mul}
use Rattle.std.proofs.Math.Decide.{dec_le}
use Rattle.std.proofs.Math.IntN.{pos, nat_abs, +ℤ_invr}
use Rattle.integers.specs.Size.{square_abs}
use Rattle.integers.specs.Ring.{ring, v0, v1, v2, v3, v4, v5, square, ◌⊕◌, ◌⊖◌, ◌⊗◌}
use Rattle.integers.specs.Square.{le_of_square_le, square_le_of_le, squares_of_pos}
use Rattle.rules.specs.declared.Pair.{Pair}
use Rattle.rules.specs.declared.Direction.{Direction}
use Rattle.rules.specs.Units.{unit}
use Rattle.rules.specs.Length.{square as squared, squares, pair_squares, root}
use Rattle.rules.specs.Turning.{Accepted, turn3}
use Rattle.laws.specs.Rounding.{rnd_near}
use Rattle.laws.specs.Root.{root_root, root_le}
use Rattle.laws.specs.Directions.{minus, times, times_le, le_of_times_le, minus_swap}
use Rattle.laws.specs.Directions.{le_of_minus_le, accepted_le}

-- no accepted direction, and no accepted pair, is longer
abbrev pub longest : ℕ
longest = unit + 2

-- between these lies the length to be divided by
abbrev pub short_turn : ℕ
short_turn = unit - 5

abbrev pub long_turn : ℕ
long_turn = unit + 5

-- what the two roundings of a turn leave over, times 2^30: 3/4
abbrev pub roundings : ℕ
roundings = 3 * 2 ^ 28

-- and together with the bringing to length: 9 3/4
abbrev pub turn_error : ℕ
turn_error = 39 * 2 ^ 28

-- 2^30 times the turn, with nothing rounded
abbrev pub image : Pair → Direction → Direction
image p v = record {
  x = p.cosine *ℤ v.x -ℤ p.sine *ℤ v.y;
  y = p.sine *ℤ v.x +ℤ p.cosine *ℤ v.y;
  z = pos unit *ℤ v.z;
}

-- ---- the size of the image

pub pair_squares_pos : (p : Pair) → p.cosine *ℤ p.cosine +ℤ p.sine *ℤ p.sine ≡ pos (pair_squares p)
unfolding pair_squares squared
pair_squares_pos p = rw (square_abs p.cosine, square_abs p.sine)

image_products : (c s x y z b : ℤ)
    → (c *ℤ x -ℤ s *ℤ y) *ℤ (c *ℤ x -ℤ s *ℤ y) +ℤ (s *ℤ x +ℤ c *ℤ y) *ℤ (s *ℤ x +ℤ c *ℤ y) +ℤ (b *ℤ z) *ℤ (b *ℤ z)
    ≡ (c *ℤ c +ℤ s *ℤ s) *ℤ (x *ℤ x +ℤ y *ℤ y) +ℤ b *ℤ b *ℤ (z *ℤ z)
image_products c s x y z b = ring (c ∷ s ∷ x ∷ y ∷ z ∷ b ∷ [])
    (square (v0 ⊗ v2 ⊖ v1 ⊗ v3) ⊕ square (v1 ⊗ v2 ⊕ v0 ⊗ v3) ⊕ square (v5 ⊗ v4))
    ((square v0 ⊕ square v1) ⊗ (square v2 ⊕ square v3) ⊕ square v5 ⊗ square v4) tt

image_squares : (p : Pair) (v : Direction)
    → squares (image p v) ≡ pair_squares p * (squared v.x + squared v.y) + 2 ^ 60 * squared v.z
unfolding squares squared
image_squares p v = ap nat_abs (rw (
  squares_of_pos (image p v).x (image p v).y (image p v).z,
  pair_squares_pos p,
  square_abs v.x,
  square_abs v.y,
  square_abs v.z,
)
    at (image_products p.cosine p.sine v.x v.y v.z (pos unit)))

pub image_le : (p : Pair) (v : Direction) (A : ℕ) → Accepted (pair_squares p) → squares v ≤ A * A
    → squares (image p v) ≤ (longest * A) * (longest * A)
unfolding squares
image_le p v A h k = last (squared v.x + squared v.y) (squared v.z) (image_squares p v) h.high k
  where
    last : {n g : ℕ} (q r : ℕ) → n ≡ g * q + 2 ^ 60 * r → g ≤ 2 ^ 60 + 2 ^ 32 → q + r ≤ A * A
        → n ≤ (longest * A) * (longest * A)
    last q r e h k = omega (arith, mul-le-mul_right q h)

-- no shorter than the shortest that is accepted, times the shortest pair
abbrev least : ℕ
least = 2 ^ 60 - 2 ^ 32

image_ge : (p : Pair) (v : Direction) → Accepted (pair_squares p) → Accepted (squares v)
    → least * least ≤ squares (image p v)
unfolding squares
image_ge p v h k =
    last least (squared v.x + squared v.y) (squared v.z) (image_squares p v)
    (omega (arith, h.low)) (lit≤ tt) (omega (arith, k.low))
  where
    last : {n g b : ℕ} (k q r : ℕ) → n ≡ g * q + b * r → k ≤ g → k ≤ b → k ≤ q + r → k * k ≤ n
    last k q r e h i j = omega (arith, mul-le-mul_right q h, mul-le-mul_right r i, mul-le-mul_left k j)

-- ---- what the two roundings leave over

rest_le : (p : Pair) (v : Direction)
    → squares (minus (image p v) (times (pos unit) (turn3 p v))) ≤ roundings * roundings
unfolding squares squared turn3
rest_le p v =
    small _ _ _
    (rnd_near (p.cosine *ℤ v.x -ℤ p.sine *ℤ v.y) unit (lit< tt))
    (rnd_near (p.sine *ℤ v.x +ℤ p.cosine *ℤ v.y) unit (lit< tt))
    (ap nat_abs (+ℤ_invr (pos unit *ℤ v.z)))
  where
    small : (e f g : ℕ) → 2 * e ≤ unit → 2 * f ≤ unit → g ≡ 0 → e * e + f * f + g * g ≤ roundings * roundings
    small e f g h k l = rw l (omega (arith, mul-le-mul h h, mul-le-mul k k))

pub rest_back_le : (p : Pair) (v : Direction)
    → squares (minus (times (pos unit) (turn3 p v)) (image p v)) ≤ roundings * roundings
rest_back_le p v =
    subst (λ n. n ≤ roundings * roundings) (sym (minus_swap (image p v) (times (pos unit) (turn3 p v)))) (rest_le p v)

-- ---- the turn

module _ (p : Pair) (v : Direction) (hp : Accepted (pair_squares p)) (hv : Accepted (squares v)) where
  pub turn3_le : squares (turn3 p v) ≤ long_turn * long_turn
  turn3_le =
      le_of_times_le unit (turn3 p v) long_turn (lit< tt)
      (square_le_of_le (longest * longest + roundings) (unit * long_turn)
      (le_of_minus_le (image p v) (times (pos unit) (turn3 p v)) (longest * longest) roundings
      (image_le p v longest hp (accepted_le hv)) (rest_back_le p v))
      (lit≤ tt))

  pub turn3_fits : squares (turn3 p v) < 2 ^ 61
  turn3_fits = omega (arith, turn3_le)

  -- the length to be divided by is never nought
  pub turn3_root_le : root (squares (turn3 p v)) ≤ long_turn
  turn3_root_le = root_le (squares (turn3 p v)) long_turn (omega (arith, turn3_fits)) turn3_le

  pub turn3_root_ge : short_turn ≤ root (squares (turn3 p v))
  turn3_root_ge = by (dec_le short_turn (root (squares (turn3 p v))))
    where
      not_shorter : squares (turn3 p v) ≤ short_turn * short_turn → ⊥
      not_shorter h =
          let k : least ≤ unit * short_turn + roundings =
          le_of_square_le least (unit * short_turn + roundings) (le_trans (image_ge p v hp hv)
          (le_of_minus_le (times (pos unit) (turn3 p v)) (image p v) (unit * short_turn) roundings
          (times_le (pos unit) (turn3 p v) unit short_turn (lit≤ tt) h) (rest_le p v))) in
          omega arith

      below : (n l : ℕ) → n < (l + 1) * (l + 1) → l < short_turn → n ≤ short_turn * short_turn
      below n l h k = let m : l + 1 ≤ short_turn = omega arith in omega (arith, mul-le-mul m m)

      by : Dec (short_turn ≤ root (squares (turn3 p v))) → short_turn ≤ root (squares (turn3 p v))
      by (yes h) = h
      by (no h) = absurd (not_shorter (below (squares (turn3 p v)) (root (squares (turn3 p v)))
          (root_root (squares (turn3 p v)) (omega (arith, turn3_fits))).above (lt_of_not-le h)))
