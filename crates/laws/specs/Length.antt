-- Bringing to length: how large a part becomes and how far it moves, that the length comes out accepted, and when
-- refusal 13 is given.
use Rattle.std.specs.Prelude.{◌≡◌, refl, true, [], ◌∷◌, ℕ, ◌+◌, ◌*◌, ◌≤◌, ◌<◌, ◌^◌, ℤ, negsuc, nat_abs, ◌-ℤ◌, ◌*ℤ◌}
use Rattle.std.proofs.Common.{ap, ◌∙◌, mul-le-mul, mul-le-mul_right, lt_of_not-le, arith}
use Rattle.std.proofs.Math.Nat.{le_of_mul-le-mul_left}
use Rattle.std.proofs.Math.Decide.{dec_le}
use Rattle.std.proofs.Math.IntN.{pos}
use borrow.Author.Tests.{eqb-true}
use Rattle.integers.specs.Size.{abs_sub, abs_mul}
use Rattle.integers.specs.Ring.{ring, v0, v1, v2, v3, ◌⊖◌, ◌⊗◌}
use Rattle.integers.specs.Square.{squares_of}
use Rattle.rules.specs.declared.Pair.{Pair}
use Rattle.rules.specs.declared.Direction.{Direction}
use Rattle.rules.specs.Units.{unit}
use Rattle.rules.specs.Length.{square, squares, pair_squares, part_to, root, root_from, to_length, pair_to_length}
use Rattle.rules.specs.Length.{length_refused}
use Rattle.rules.specs.Turning.{Accepted}
use Rattle.laws.specs.Rounding.{rnd_pos, rnd_size_zero, rnd_under}
use Rattle.laws.specs.Root.{Root, root_root}
use Rattle.laws.specs.Directions.{PartsLe, minus, nought}
use Rattle.laws.specs.LengthNear.{part_rest, length_near}

-- ---- one part, for the length l

pub part_to_le : (a : ℤ) (l : ℕ) → 0 < l → nat_abs a ≤ l → nat_abs (part_to l a) ≤ unit
unfolding part_to
part_to_le a l h k = rnd_under (a *ℤ pos unit) l unit h (rw (abs_mul a (pos unit)) (mul-le-mul_right unit k))

-- it moves no further than the length does
pub part_to_near : (a : ℤ) (l : ℕ) → 0 < l → nat_abs a ≤ l → nat_abs (part_to l a -ℤ a) ≤ nat_abs (pos unit -ℤ pos l)
part_to_near a l h k =
    let q = part_to l a in
    last (nat_abs (q -ℤ a)) (nat_abs a) (nat_abs (pos unit -ℤ pos l)) (nat_abs (a *ℤ pos unit -ℤ pos l *ℤ q))
    (omega (
      arith,
      ap nat_abs (moving a q (pos unit) (pos l)),
      abs_mul (pos l) (q -ℤ a),
      abs_sub (a *ℤ (pos unit -ℤ pos l)) (a *ℤ pos unit -ℤ pos l *ℤ q),
      abs_mul a (pos unit -ℤ pos l),
    ))
    k (part_rest a l h)
  where
    moving : (a q b l : ℤ) → l *ℤ (q -ℤ a) ≡ a *ℤ (b -ℤ l) -ℤ (a *ℤ b -ℤ l *ℤ q)
    moving a q b l = ring (a ∷ q ∷ b ∷ l ∷ []) (v3 ⊗ (v1 ⊖ v0)) (v0 ⊗ (v2 ⊖ v3) ⊖ (v0 ⊗ v2 ⊖ v3 ⊗ v1)) tt

    halves : (m d : ℕ) → 2 * m ≤ 2 * d + 1 → m ≤ d
    halves m d h = omega arith

    last : (m a d e : ℕ) → l * m ≤ a * d + e → a ≤ l → 2 * e ≤ l → m ≤ d
    last m a d e u v w =
        halves m d (le_of_mul-le-mul_left {k = l} (omega (arith, mul-le-mul_right d v)) h)

-- ---- a direction and a pair

-- no part is larger than the root of the squares' sum
pub le_root : (a n l : ℕ) → a * a ≤ n → Root n l → a ≤ l
le_root a n l h r = by (dec_le a l)
  where
    by : Dec (a ≤ l) → a ≤ l
    by (yes k) = k
    by (no k) = let m : l + 1 ≤ a = omega (arith, lt_of_not-le k) in absurd (omega (arith, mul-le-mul m m, r.above))

module _ (v : Direction) (h : squares v < 2 ^ 64) where
  pub parts_le_root : PartsLe (root (squares v)) v
  unfolding squares square
  parts_le_root =
      let r = root_root (squares v) h in
      record {
        x = le_root (nat_abs v.x) (squares v) (root (squares v)) (omega arith) r;
        y = le_root (nat_abs v.y) (squares v) (root (squares v)) (omega arith) r;
        z = le_root (nat_abs v.z) (squares v) (root (squares v)) (omega arith) r;
      }

  pub to_length_le : 0 < root (squares v) → PartsLe unit (to_length v)
  unfolding to_length
  to_length_le k = record {
    x = part_to_le v.x (root (squares v)) k parts_le_root.x;
    y = part_to_le v.y (root (squares v)) k parts_le_root.y;
    z = part_to_le v.z (root (squares v)) k parts_le_root.z;
  }

  -- no part moves further than the length does
  pub to_length_near : 0 < root (squares v)
      → PartsLe (nat_abs (pos unit -ℤ pos (root (squares v)))) (minus (to_length v) v)
  unfolding to_length
  to_length_near k = record {
    x = part_to_near v.x (root (squares v)) k parts_le_root.x;
    y = part_to_near v.y (root (squares v)) k parts_le_root.y;
    z = part_to_near v.z (root (squares v)) k parts_le_root.z;
  }

  -- what is not far too short is brought to an accepted length
  pub to_length_accepted : 15 * unit ≤ 16 * root (squares v) → Accepted (squares (to_length v))
  unfolding squares square to_length
  to_length_accepted k = length_near v.x v.y v.z (root (squares v)) (root_root (squares v) h) k

  -- refusal 13 is given of nought alone
  pub nought_of_refused : length_refused v ≡ true → v ≡ nought
  unfolding length_refused
  nought_of_refused t =
      let l : root (squares v) ≡ 0 = eqb-true (root (squares v)) 0 t in
      by v.x v.y v.z
      (nought_of_size v.x (omega (arith, parts_le_root.x)))
      (nought_of_size v.y (omega (arith, parts_le_root.y)))
      (nought_of_size v.z (omega (arith, parts_le_root.z)))
    where
      by : (x y z : ℤ) → x ≡ pos 0 → y ≡ pos 0 → z ≡ pos 0 → record { x = x; y = y; z = z } ≡ nought
      by x y z p q r = rw (p, q, r)

      nought_of_size : (a : ℤ) → nat_abs a ≤ 0 → a ≡ pos 0
      nought_of_size (pos n) k = ap pos (omega arith)
      nought_of_size (negsuc n) k = absurd (omega arith)

pub nought_refused : length_refused nought ≡ true
unfolding length_refused root root_from squares square
nought_refused = refl

part_zero : (l : ℕ) → part_to l (pos 0) ≡ pos 0
unfolding part_to
part_zero l = rnd_pos 0 l ∙ ap pos (rnd_size_zero l)

-- a pair is two parts of a direction whose third is nought
pub pair_to_length_accepted : (p : Pair) → pair_squares p < 2 ^ 64 → 15 * unit ≤ 16 * root (pair_squares p)
    → Accepted (pair_squares (pair_to_length p))
unfolding pair_squares square pair_to_length
pair_to_length_accepted p h k =
    let l = root (pair_squares p) in
    let r = root_root (pair_squares p) h in
    flat (part_to l p.cosine) (part_to l p.sine) (part_to l (pos 0)) (part_zero l)
    (length_near p.cosine p.sine (pos 0) l
    (record { below = omega (arith, r.below); above = omega (arith, r.above) }) k)
  where
    flat : (c s z : ℤ) → z ≡ pos 0 → Accepted (squares_of c s z)
        → Accepted (nat_abs c * nat_abs c + nat_abs s * nat_abs s)
    flat c s z e a =
        let o : nat_abs z * nat_abs z ≡ 0 = ap (λ z. nat_abs z * nat_abs z) e in
        record { low = omega (arith, a.low, o); high = omega (arith, a.high, o) }
