-- Directions as vectors: sum, difference and multiple, and their sizes, by squares. What an accepted one's size is.
use Rattle.std.specs.Prelude.{◌≡◌, [], ◌∷◌, ℕ, ◌+◌, ◌*◌, ◌≤◌, ◌<◌, ℤ, pos, neg_ℤ, nat_abs, ◌+ℤ◌, ◌-ℤ◌, ◌*ℤ◌}
use Rattle.std.proofs.Common.{ap, ◌∙◌, mul-le-mul, lt_of_not-le, arith}
use Rattle.std.proofs.Math.Decide.{dec_le}
use Rattle.integers.specs.Size.{abs_neg}
use Rattle.integers.specs.Ring.{ring, v0, v1, neg, ◌⊕◌, ◌⊖◌}
use Rattle.integers.specs.Square.{le_of_square_le, minkowski, squares_of_scale_le, squares_of_unscale_le}
use Rattle.rules.specs.declared.Direction.{Direction}
use Rattle.rules.specs.Units.{unit}
use Rattle.rules.specs.Length.{square, squares}
use Rattle.rules.specs.Turning.{Accepted}

abbrev pub nought : Direction
nought = record { x = pos 0; y = pos 0; z = pos 0 }

abbrev pub plus : Direction → Direction → Direction
plus a b = record { x = a.x +ℤ b.x; y = a.y +ℤ b.y; z = a.z +ℤ b.z }

abbrev pub minus : Direction → Direction → Direction
minus a b = record { x = a.x -ℤ b.x; y = a.y -ℤ b.y; z = a.z -ℤ b.z }

abbrev pub times : ℤ → Direction → Direction
times k a = record { x = k *ℤ a.x; y = k *ℤ a.y; z = k *ℤ a.z }

-- ---- sizes, by squares

pub plus_le : (a b : Direction) (A B : ℕ) → squares a ≤ A * A → squares b ≤ B * B
    → squares (plus a b) ≤ (A + B) * (A + B)
unfolding squares square
plus_le a b A B h k = minkowski a.x a.y a.z b.x b.y b.z A B h k

pub times_le : (k : ℤ) (a : Direction) (K A : ℕ) → nat_abs k ≤ K → squares a ≤ A * A
    → squares (times k a) ≤ (K * A) * (K * A)
unfolding squares square
times_le k a K A h g = squares_of_scale_le k a.x a.y a.z K A h g

-- and back again
pub le_of_times_le : (k : ℕ) (a : Direction) (A : ℕ) → 0 < k → squares (times (pos k) a) ≤ (k * A) * (k * A)
    → squares a ≤ A * A
unfolding squares square
le_of_times_le k a A h g = squares_of_unscale_le k a.x a.y a.z A h g

-- a difference, either way round
pub minus_swap : (a b : Direction) → squares (minus b a) ≡ squares (minus a b)
unfolding squares square
minus_swap a b = rw (abs_swap a.x b.x, abs_swap a.y b.y, abs_swap a.z b.z)
  where
    swap : (x y : ℤ) → y -ℤ x ≡ neg_ℤ (x -ℤ y)
    swap x y = ring (x ∷ y ∷ []) (v1 ⊖ v0) (neg (v0 ⊖ v1)) tt

    abs_swap : (x y : ℤ) → nat_abs (y -ℤ x) ≡ nat_abs (x -ℤ y)
    abs_swap x y = ap nat_abs (swap x y) ∙ abs_neg (x -ℤ y)

-- vectors with equal parts have one size
pub le_of_parts_eq : (a b : Direction) {n : ℕ} → a.x ≡ b.x → a.y ≡ b.y → a.z ≡ b.z → squares b ≤ n → squares a ≤ n
unfolding squares square
le_of_parts_eq a b p q r h = rw (p, q, r) h

-- what lies within E of a vector of size A has size A + E
pub le_of_minus_le : (a b : Direction) (A E : ℕ) → squares a ≤ A * A → squares (minus b a) ≤ E * E
    → squares b ≤ (A + E) * (A + E)
le_of_minus_le a b A E h k =
    le_of_parts_eq b (plus a (minus b a)) (as_sum a.x b.x) (as_sum a.y b.y) (as_sum a.z b.z)
    (plus_le a (minus b a) A E h k)
  where
    as_sum : (x y : ℤ) → y ≡ x +ℤ (y -ℤ x)
    as_sum x y = ring (x ∷ y ∷ []) v1 (v0 ⊕ (v1 ⊖ v0)) tt

-- ---- parts

-- no part is larger than n
pub record PartsLe (n : ℕ) (v : Direction) : Type 0 where
  pub x : nat_abs v.x ≤ n
  pub y : nat_abs v.y ≤ n
  pub z : nat_abs v.z ≤ n

pub parts_le : (v : Direction) (n : ℕ) → squares v ≤ n * n → PartsLe n v
unfolding squares square
parts_le v n h = record {
  x = le_of_square_le (nat_abs v.x) n (omega arith);
  y = le_of_square_le (nat_abs v.y) n (omega arith);
  z = le_of_square_le (nat_abs v.z) n (omega arith);
}

-- ---- an accepted direction

pub accepted_le : {n : ℕ} → Accepted n → n ≤ (unit + 2) * (unit + 2)
accepted_le h = omega (arith, h.high)

-- the square of one more is above what is accepted
pub part_le : (a n : ℕ) → a * a ≤ n → Accepted n → a ≤ unit + 1
part_le a n h k = by (dec_le a (unit + 1))
  where
    by : Dec (a ≤ unit + 1) → a ≤ unit + 1
    by (yes l) = l
    by (no l) =
        let m : unit + 2 ≤ a = omega (arith, lt_of_not-le l) in
        absurd (omega (arith, mul-le-mul m m, k.high))

pub accepted_parts : (v : Direction) → Accepted (squares v) → PartsLe (unit + 1) v
unfolding squares square
accepted_parts v h = record {
  x = part_le (nat_abs v.x) (squares v) (omega arith) h;
  y = part_le (nat_abs v.y) (squares v) (omega arith) h;
  z = part_le (nat_abs v.z) (squares v) (omega arith) h;
}
