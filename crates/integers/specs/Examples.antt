-- A worked example of each tool of this crate.
use Rattle.std.specs.Prelude.{◌≡◌, [], ◌∷◌, ℕ, ◌+◌, ◌*◌, ◌≤◌, ℤ, pos, neg_ℤ, nat_abs, ◌+ℤ◌, ◌-ℤ◌, ◌*ℤ◌}
use Rattle.std.proofs.Common.{ap, arith, lit<}
use Rattle.std.specs.Int.Signed.{quot_z}
use Rattle.integers.specs.Difference.{as_less, lesses, less_eq, sub_is}
use Rattle.integers.specs.Size.{abs_le}
use Rattle.integers.specs.Sign.{odd, by_sign}
use Rattle.integers.specs.Ring.{ring, bounded, v0, v1, lit, square, ◌⊕◌, ◌⊖◌, ◌⊗◌}
use Rattle.integers.specs.Order.{Nonneg, both, none, part, certify}
use Rattle.integers.specs.Power.{power}
use Rattle.integers.specs.Polynomial.{value_at, size_at, value_le}

-- `less`: an identity of two variables, compared by `omega` (`mul_assoc` and `mul_add` go the same way)
difference_of_squares : (x y : ℤ) → (x +ℤ y) *ℤ (x -ℤ y) ≡ x *ℤ x -ℤ y *ℤ y
difference_of_squares x y = rw (as_less x, as_less y) (simp lesses (less_eq _ _ _ _ (omega arith)))

-- `ring`: the same of any degree and number of variables
cube_of_a_sum : (x y : ℤ)
    → (x +ℤ y) *ℤ ((x +ℤ y) *ℤ (x +ℤ y))
    ≡ x *ℤ (x *ℤ x) +ℤ pos 3 *ℤ (x *ℤ (x *ℤ y)) +ℤ pos 3 *ℤ (x *ℤ (y *ℤ y)) +ℤ y *ℤ (y *ℤ y)
cube_of_a_sum x y = ring (x ∷ y ∷ [])
    ((v0 ⊕ v1) ⊗ ((v0 ⊕ v1) ⊗ (v0 ⊕ v1)))
    (v0 ⊗ (v0 ⊗ v0) ⊕ lit (pos 3) ⊗ (v0 ⊗ (v0 ⊗ v1)) ⊕ lit (pos 3) ⊗ (v0 ⊗ (v1 ⊗ v1)) ⊕ v1 ⊗ (v1 ⊗ v1)) tt

-- `bounded`: x² − 3 x is at most 10,300 in size for x to 100 in size
parabola_le : (x : ℤ) → nat_abs x ≤ 100 → nat_abs (x *ℤ x -ℤ pos 3 *ℤ x) ≤ 10300
parabola_le x h = bounded (square v0 ⊖ lit (pos 3) ⊗ v0) x 100 10300 h tt

-- `certify`: 0 ≤ x ≤ 1000 and 0 ≤ y ≤ 2000 give x y ≤ 2,000,000 (Cauchy and Schwarz, in Square, is another)
product_le : (x y : ℤ) → Nonneg x → Nonneg (pos 1000 -ℤ x) → Nonneg y → Nonneg (pos 2000 -ℤ y)
    → Nonneg (pos 2000000 -ℤ x *ℤ y)
product_le x y hx kx hy ky = certify (x ∷ y ∷ [])
    (v0 ∷ (lit (pos 1000) ⊖ v0) ∷ v1 ∷ (lit (pos 2000) ⊖ v1) ∷ [])
    (both hx (both kx (both hy (both ky none))))
    (lit (pos 2000000) ⊖ v0 ⊗ v1)
    (part 1 (0 ∷ 3 ∷ []) ∷ part 2000 (1 ∷ []) ∷ [])
    tt

-- `abs_le`: a distance from its two sides, with the parts of the difference
distance_le : (m n d : ℕ) → m ≤ n + d → n ≤ m + d → nat_abs (pos m -ℤ pos n) ≤ d
distance_le m n d h k =
    abs_le (pos m -ℤ pos n) d (omega (arith, sub_is (pos m) (pos n))) (omega (arith, sub_is (pos m) (pos n)))

-- `by_sign`: proved of naturals, and the minus moved out by `odd`
half_of_twice : (x : ℤ) → quot_z (pos 2 *ℤ x) (pos 2) ≡ x
half_of_twice x = by_sign (λ z. quot_z (pos 2 *ℤ z) (pos 2) ≡ z) (λ n. ap pos (omega arith))
    (λ y p. simp odd (ap neg_ℤ p)) x

-- P3: 6 − x at x = z / o, times o, for z to half of o: at most 13 / 2 of o, rounded up
line_le : (z : ℤ) (o : ℕ) → 2 * nat_abs z ≤ 1 * o
    → nat_abs (value_at z o 1 (pos 6 ∷ neg_ℤ (pos 1) ∷ [])) ≤ 7 * power o 1
unfolding size_at
line_le z o h = value_le z o 1 2 (lit< tt) h 1 (pos 6 ∷ neg_ℤ (pos 1) ∷ [])
