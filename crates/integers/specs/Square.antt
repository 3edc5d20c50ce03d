-- Squares of naturals, and of three integers together: order by squares, Cauchy and Schwarz, Minkowski.
use Rattle.std.specs.Prelude.{◌≡◌, List, [], ◌∷◌, ℕ, ◌+◌, ◌*◌, ◌≤◌, ◌<◌, ℤ, pos, nat_abs, ◌+ℤ◌, ◌-ℤ◌, ◌*ℤ◌}
use Rattle.std.proofs.Common.{sym, ap, mul-le-mul, le_trans, lt_of_not-le, le_of_lt, arith}
use Rattle.std.proofs.Math.Nat.{le_of_mul-le-mul_left, le_dest}
use Rattle.std.proofs.Math.Decide.{dec_le}
use Rattle.integers.specs.Difference.{sub_is}
use Rattle.integers.specs.Size.{abs_add, abs_mul, square_abs}
use Rattle.integers.specs.Ring.{Term, ring, value, v0, v1, v2, v3, v4, v5, lit, square, ◌⊕◌, ◌⊖◌, ◌⊗◌}
use Rattle.integers.specs.Order.{Nonneg, nonneg_square, nonneg_parts, both, none, part, certify}

-- ---- naturals

pub le_of_square_le : (a b : ℕ) → a * a ≤ b * b → a ≤ b
le_of_square_le a b h = by (dec_le a b)
  where
    by : Dec (a ≤ b) → a ≤ b
    by (yes k) = k
    by (no k) = let l : b + 1 ≤ a = omega (arith, lt_of_not-le k) in absurd (omega (arith, mul-le-mul l l))

pub square_le_of_le : {n : ℕ} (a b : ℕ) → n ≤ a * a → a ≤ b → n ≤ b * b
square_le_of_le a b h k = le_trans h (mul-le-mul k k)

-- twice a product is at most the two squares
pub two_products_le : (a b : ℕ) → 2 * (a * b) ≤ a * a + b * b
two_products_le a b = by (dec_le a b)
  where
    more : (a b : ℕ) → a ≤ b → 2 * (a * b) ≤ a * a + b * b
    more a b h = let d = le_dest h in rw (sym d.1) (omega arith)

    by : Dec (a ≤ b) → 2 * (a * b) ≤ a * a + b * b
    by (yes h) = more a b h
    by (no h) = omega (arith, more b a (le_of_lt (lt_of_not-le h)))

-- ---- three integers

-- the squares' sum of x, y, z
abbrev pub squares_of : ℤ → ℤ → ℤ → ℕ
squares_of x y z = nat_abs x * nat_abs x + nat_abs y * nat_abs y + nat_abs z * nat_abs z

pub squares_of_pos : (x y z : ℤ) → x *ℤ x +ℤ y *ℤ y +ℤ z *ℤ z ≡ pos (squares_of x y z)
squares_of_pos x y z = rw (square_abs x, square_abs y, square_abs z)

-- the product of (a, b, c) and (x, y, z), as a number and as a term
abbrev dot : ℤ → ℤ → ℤ → ℤ → ℤ → ℤ → ℤ
dot a b c x y z = a *ℤ x +ℤ b *ℤ y +ℤ c *ℤ z

abbrev dot_term : Term
dot_term = v0 ⊗ v3 ⊕ v1 ⊗ v4 ⊕ v2 ⊗ v5

-- Cauchy and Schwarz: what is left over is a sum of three squares (Lagrange)
pub cauchy_schwarz : (a b c x y z : ℤ)
    → Nonneg ((a *ℤ a +ℤ b *ℤ b +ℤ c *ℤ c) *ℤ (x *ℤ x +ℤ y *ℤ y +ℤ z *ℤ z)
    -ℤ dot a b c x y z *ℤ dot a b c x y z)
cauchy_schwarz a b c x y z =
    let xs : List ℤ = a ∷ b ∷ c ∷ x ∷ y ∷ z ∷ [] in
    let p : Term = v0 ⊗ v4 ⊖ v1 ⊗ v3 in
    let q : Term = v0 ⊗ v5 ⊖ v2 ⊗ v3 in
    let r : Term = v1 ⊗ v5 ⊖ v2 ⊗ v4 in
    certify xs (square p ∷ square q ∷ square r ∷ [])
    (both (nonneg_square (value xs p)) (both (nonneg_square (value xs q)) (both (nonneg_square (value xs r)) none)))
    ((square v0 ⊕ square v1 ⊕ square v2) ⊗ (square v3 ⊕ square v4 ⊕ square v5) ⊖ square dot_term)
    (part 1 (0 ∷ []) ∷ part 1 (1 ∷ []) ∷ part 1 (2 ∷ []) ∷ [])
    tt

le_of_nonneg_pos : (m n : ℕ) → Nonneg (pos n -ℤ pos m) → m ≤ n
le_of_nonneg_pos m n h = omega (arith, sub_is (pos n) (pos m), nonneg_parts (pos n -ℤ pos m) h)

dot_square_le : (a b c x y z : ℤ)
    → nat_abs (dot a b c x y z) * nat_abs (dot a b c x y z) ≤ squares_of a b c * squares_of x y z
dot_square_le a b c x y z = le_of_nonneg_pos _ _
    (rw (squares_of_pos a b c, squares_of_pos x y z, square_abs (dot a b c x y z)) at (cauchy_schwarz a b c x y z))

dot_le : (a b c x y z : ℤ) (A B : ℕ) → squares_of a b c ≤ A * A → squares_of x y z ≤ B * B
    → nat_abs (dot a b c x y z) ≤ A * B
dot_le a b c x y z A B h k = le_of_square_le (nat_abs (dot a b c x y z)) (A * B)
    (last (dot_square_le a b c x y z) (mul-le-mul h k))
  where
    last : {d n : ℕ} → d ≤ n → n ≤ (A * A) * (B * B) → d ≤ (A * B) * (A * B)
    last u v = omega arith

expand : (a b c x y z : ℤ) → (a +ℤ x) *ℤ (a +ℤ x) +ℤ (b +ℤ y) *ℤ (b +ℤ y) +ℤ (c +ℤ z) *ℤ (c +ℤ z)
    ≡ a *ℤ a +ℤ b *ℤ b +ℤ c *ℤ c +ℤ (x *ℤ x +ℤ y *ℤ y +ℤ z *ℤ z) +ℤ pos 2 *ℤ dot a b c x y z
expand a b c x y z = ring (a ∷ b ∷ c ∷ x ∷ y ∷ z ∷ [])
    (square (v0 ⊕ v3) ⊕ square (v1 ⊕ v4) ⊕ square (v2 ⊕ v5))
    (square v0 ⊕ square v1 ⊕ square v2 ⊕ (square v3 ⊕ square v4 ⊕ square v5) ⊕ lit (pos 2) ⊗ dot_term) tt

-- Minkowski: a sum is no longer than the lengths together
pub minkowski : (a b c x y z : ℤ) (A B : ℕ) → squares_of a b c ≤ A * A → squares_of x y z ≤ B * B
    → squares_of (a +ℤ x) (b +ℤ y) (c +ℤ z) ≤ (A + B) * (A + B)
minkowski a b c x y z A B h k =
    let e = rw (squares_of_pos (a +ℤ x) (b +ℤ y) (c +ℤ z), squares_of_pos a b c, squares_of_pos x y z)
    at (expand a b c x y z) in
    last (ap nat_abs e) (abs_add (pos (squares_of a b c + squares_of x y z)) (pos 2 *ℤ dot a b c x y z))
    (abs_mul (pos 2) (dot a b c x y z)) (dot_le a b c x y z A B h k)
  where
    last : {n m o d : ℕ} → n ≡ m → m ≤ squares_of a b c + squares_of x y z + o → o ≡ 2 * d → d ≤ A * B
        → n ≤ (A + B) * (A + B)
    last u v w t = omega arith

-- a multiple is as many times as long, and back again
squares_of_scale : (k x y z : ℤ) → squares_of (k *ℤ x) (k *ℤ y) (k *ℤ z) ≡ nat_abs k * nat_abs k * squares_of x y z
squares_of_scale k x y z = rw (abs_mul k x, abs_mul k y, abs_mul k z) (omega arith)

pub squares_of_scale_le : (k x y z : ℤ) (K A : ℕ) → nat_abs k ≤ K → squares_of x y z ≤ A * A
    → squares_of (k *ℤ x) (k *ℤ y) (k *ℤ z) ≤ (K * A) * (K * A)
squares_of_scale_le k x y z K A h g = last (squares_of_scale k x y z) (mul-le-mul (mul-le-mul h h) g)
  where
    last : {n m : ℕ} → n ≡ m → m ≤ (K * K) * (A * A) → n ≤ (K * A) * (K * A)
    last u v = omega arith

pub squares_of_unscale_le : (k : ℕ) (x y z : ℤ) (A : ℕ) → 0 < k
    → squares_of (pos k *ℤ x) (pos k *ℤ y) (pos k *ℤ z) ≤ (k * A) * (k * A) → squares_of x y z ≤ A * A
squares_of_unscale_le k x y z A h g =
    le_of_mul-le-mul_left {k = k}
    (le_of_mul-le-mul_left {k = k} (last (squares_of x y z) (squares_of_scale (pos k) x y z) g) h) h
  where
    last : {n : ℕ} (m : ℕ) → n ≡ k * k * m → n ≤ (k * A) * (k * A) → k * (k * m) ≤ k * (k * (A * A))
    last m u v = omega arith
