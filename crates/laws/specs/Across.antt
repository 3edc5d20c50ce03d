-- How far a pair is across from (n, m), where it is near two series g and q over e (docs/MATHEMATICS.md,
-- "The first octant").
use Rattle.std.specs.Prelude.{◌≡◌, [], ◌∷◌, ℕ, ◌+◌, ◌*◌, ◌≤◌, ◌<◌, ℤ, pos, nat_abs, ◌+ℤ◌, ◌-ℤ◌, ◌*ℤ◌}
use Rattle.std.proofs.Common.{ap, mul-le-mul_left, mul-le-mul_right, arith}
use Rattle.std.proofs.Math.Nat.{le_of_mul-le-mul_left}
use Rattle.integers.specs.Size.{abs_mul, abs_add, abs_sub}
use Rattle.integers.specs.Ring.{ring, v0, v1, v2, v3, v4, v5, v6, ◌⊕◌, ◌⊖◌, ◌⊗◌, lit}
use Rattle.rules.specs.Units.{unit}
use Rattle.laws.specs.Near.{Near}
use Rattle.laws.specs.Certificates.{over, half_quarter_sine}

-- ---- from the two series g and q, over e, to the pair

close_out : (c s g q e m n : ℤ) → e *ℤ (c *ℤ m -ℤ s *ℤ n)
    ≡ (c *ℤ e -ℤ pos unit *ℤ g) *ℤ m -ℤ (s *ℤ e -ℤ pos unit *ℤ q) *ℤ n +ℤ pos unit *ℤ (g *ℤ m -ℤ q *ℤ n)
close_out c s g q e m n = ring (c ∷ s ∷ g ∷ q ∷ e ∷ m ∷ n ∷ [])
    (v4 ⊗ (v0 ⊗ v5 ⊖ v1 ⊗ v6))
    ((v0 ⊗ v4 ⊖ lit (pos unit) ⊗ v2) ⊗ v5 ⊖ (v1 ⊗ v4 ⊖ lit (pos unit) ⊗ v3) ⊗ v6
    ⊕ lit (pos unit) ⊗ (v2 ⊗ v5 ⊖ v3 ⊗ v6)) tt

pub close : (c s g q : ℤ) (e m n : ℕ) → Near c g e 5078 → Near s q e 6163
    → 10 * (unit * nat_abs (g *ℤ pos m -ℤ q *ℤ pos n)) ≤ (m + n) * e
    → nat_abs (c *ℤ pos m -ℤ s *ℤ pos n) ≤ 8 * (m + n)
close c s g q e m n hc hs h =
    let X = c *ℤ pos e -ℤ pos unit *ℤ g in
    let Y = s *ℤ pos e -ℤ pos unit *ℤ q in
    let W = g *ℤ pos m -ℤ q *ℤ pos n in
    let t = c *ℤ pos m -ℤ s *ℤ pos n in
    sum (nat_abs X) (nat_abs Y) (nat_abs W) (nat_abs t) e m n hc.divisor_pos hc.near hs.near h
    (omega (
      arith,
      abs_mul (pos e) t,
      ap nat_abs (close_out c s g q (pos e) (pos m) (pos n)),
      abs_add (X *ℤ pos m -ℤ Y *ℤ pos n) (pos unit *ℤ W),
      abs_sub (X *ℤ pos m) (Y *ℤ pos n),
      abs_mul X (pos m),
      abs_mul Y (pos n),
      abs_mul (pos unit) W,
    ))
  where
    sum : (X Y W t e m n : ℕ) → 0 < e → 1000 * X ≤ 5078 * e → 1000 * Y ≤ 6163 * e → 10 * (unit * W) ≤ (m + n) * e
        → e * t ≤ X * m + Y * n + unit * W → t ≤ 8 * (m + n)
    sum X Y W t e m n he hx hy hw ht =
        le_of_mul-le-mul_left {k = e} (omega (arith, mul-le-mul_right m hx, mul-le-mul_right n hy)) he

-- ---- the second case: m and n = m + a are turned by half a quarter from a and m + n

turn_out : (g q c s k m a : ℤ) → pos over *ℤ (c *ℤ m -ℤ s *ℤ (m +ℤ a))
    ≡ (pos over *ℤ c -ℤ k *ℤ (g +ℤ q)) *ℤ m -ℤ (pos over *ℤ s -ℤ k *ℤ (g -ℤ q)) *ℤ (m +ℤ a)
    -ℤ k *ℤ (g *ℤ a -ℤ q *ℤ (m +ℤ a +ℤ m))
turn_out g q c s k m a = ring (g ∷ q ∷ c ∷ s ∷ k ∷ m ∷ a ∷ [])
    (lit (pos over) ⊗ (v2 ⊗ v5 ⊖ v3 ⊗ (v5 ⊕ v6)))
    ((lit (pos over) ⊗ v2 ⊖ v4 ⊗ (v0 ⊕ v1)) ⊗ v5 ⊖ (lit (pos over) ⊗ v3 ⊖ v4 ⊗ (v0 ⊖ v1)) ⊗ (v5 ⊕ v6)
    ⊖ v4 ⊗ (v0 ⊗ v6 ⊖ v1 ⊗ (v5 ⊕ v6 ⊕ v5))) tt

pub turned : (g q c s : ℤ) (p e f m a : ℕ) → f ≡ p * e
    → 100 * (unit * nat_abs (pos over *ℤ c -ℤ pos (half_quarter_sine * p) *ℤ (g +ℤ q))) ≤ 3 * (over * f)
    → 100 * (unit * nat_abs (pos over *ℤ s -ℤ pos (half_quarter_sine * p) *ℤ (g -ℤ q))) ≤ 3 * (over * f)
    → 100 * (unit * nat_abs (g *ℤ pos a -ℤ q *ℤ pos (m + a + m))) ≤ 7 * (a * e)
    → 10 * (unit * nat_abs (c *ℤ pos m -ℤ s *ℤ pos (m + a))) ≤ (m + (m + a)) * f
turned g q c s p e f m a hf hx hy hv =
    let X = pos over *ℤ c -ℤ pos (half_quarter_sine * p) *ℤ (g +ℤ q) in
    let Y = pos over *ℤ s -ℤ pos (half_quarter_sine * p) *ℤ (g -ℤ q) in
    let U = g *ℤ pos a -ℤ q *ℤ pos (m + a + m) in
    let W = c *ℤ pos m -ℤ s *ℤ pos (m + a) in
    sum (nat_abs X) (nat_abs Y) (nat_abs U) (nat_abs W) p e f m a hf hx hy hv
    (omega (
      arith,
      abs_mul (pos over) W,
      ap nat_abs (turn_out g q c s (pos (half_quarter_sine * p)) (pos m) (pos a)),
      abs_sub (X *ℤ pos m -ℤ Y *ℤ pos (m + a)) (pos (half_quarter_sine * p) *ℤ U),
      abs_sub (X *ℤ pos m) (Y *ℤ pos (m + a)),
      abs_mul X (pos m),
      abs_mul Y (pos (m + a)),
      abs_mul (pos (half_quarter_sine * p)) U,
    ))
  where
    sum : (X Y U W p e f m a : ℕ) → f ≡ p * e → 100 * (unit * X) ≤ 3 * (over * f) → 100 * (unit * Y) ≤ 3 * (over * f)
        → 100 * (unit * U) ≤ 7 * (a * e) → over * W ≤ X * m + Y * (m + a) + half_quarter_sine * p * U
        → 10 * (unit * W) ≤ (m + (m + a)) * f
    sum X Y U W p e f m a hf hx hy hu hw =
        omega (
          arith,
          mul-le-mul_right m hx,
          mul-le-mul_right (m + a) hy,
          mul-le-mul_left p hu,
          ap (λ z. m * z) hf,
          ap (λ z. a * z) hf,
        )
