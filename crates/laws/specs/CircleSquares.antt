-- The squares' sum of the raw pair is near 2^60: the squares of the two series make one, and the raw sine and cosine
-- are near them (docs/MATHEMATICS.md, "The length of the raw pair").
use Rattle.std.specs.Prelude.{◌≡◌, [], ◌∷◌, ℕ, ◌+◌, ◌*◌, ◌/◌, ◌≤◌, ◌<◌, ◌^◌, ℤ, pos, nat_abs, ◌+ℤ◌, ◌-ℤ◌, ◌*ℤ◌}
use Rattle.std.proofs.Common.{ap, subst, mul-le-mul, mul-le-mul_left, le_trans, arith, lit≤}
use Rattle.std.proofs.Math.Nat.{le_of_mul-le-mul_left}
use Rattle.integers.specs.Size.{abs_add, abs_sub, abs_mul}
use Rattle.integers.specs.Ring.{ring, bounded, Term, v0, v1, v2, v3, v4, v5, ◌⊕◌, ◌⊖◌, ◌⊗◌, lit}
use Rattle.rules.specs.Units.{unit}
use Rattle.rules.specs.Series.{factorial, power, term, whole, sine_series, cosine_series}
use Rattle.laws.specs.UpTo.{UpTo, up_to_le}
use Rattle.laws.specs.Near.{Near}
use Rattle.laws.specs.Series.{sine_term, cosine_term}
use Rattle.laws.specs.Circle.{half_quarter_parts}

-- ---- the squares of the two series make one, but for 10^-14: one computed bound on one polynomial in x

abbrev squares_term : Term
squares_term = sine_term v0 (lit (pos unit)) ⊗ sine_term v0 (lit (pos unit))
    ⊕ cosine_term v0 (lit (pos unit)) ⊗ cosine_term v0 (lit (pos unit)) ⊖ lit (pos (whole unit * whole unit))

pub series_squares : (x : ℤ) → nat_abs x ≤ half_quarter_parts
    → 10 ^ 14 * nat_abs (sine_series x unit *ℤ sine_series x unit +ℤ cosine_series x unit *ℤ cosine_series x unit
    -ℤ pos (whole unit * whole unit)) ≤ whole unit * whole unit
unfolding sine_series cosine_series term power whole factorial
series_squares x h =
    le_trans (mul-le-mul_left (10 ^ 14)
    (bounded squares_term x half_quarter_parts (whole unit * whole unit / 10 ^ 14) h tt)) (lit≤ tt)

-- ---- e² (s² + c² − b²), where s and c are near b σ / e and b γ / e

squares_out : (s c σ γ e b : ℤ) → e *ℤ e *ℤ (s *ℤ s +ℤ c *ℤ c -ℤ b *ℤ b)
    ≡ b *ℤ b *ℤ (σ *ℤ σ +ℤ γ *ℤ γ -ℤ e *ℤ e)
    +ℤ pos 2 *ℤ e *ℤ (s *ℤ (s *ℤ e -ℤ b *ℤ σ) +ℤ c *ℤ (c *ℤ e -ℤ b *ℤ γ))
    -ℤ ((s *ℤ e -ℤ b *ℤ σ) *ℤ (s *ℤ e -ℤ b *ℤ σ) +ℤ (c *ℤ e -ℤ b *ℤ γ) *ℤ (c *ℤ e -ℤ b *ℤ γ))
squares_out s c σ γ e b = ring (s ∷ c ∷ σ ∷ γ ∷ e ∷ b ∷ [])
    (v4 ⊗ v4 ⊗ (v0 ⊗ v0 ⊕ v1 ⊗ v1 ⊖ v5 ⊗ v5))
    (v5 ⊗ v5 ⊗ (v2 ⊗ v2 ⊕ v3 ⊗ v3 ⊖ v4 ⊗ v4)
    ⊕ lit (pos 2) ⊗ v4 ⊗ (v0 ⊗ (v0 ⊗ v4 ⊖ v5 ⊗ v2) ⊕ v1 ⊗ (v1 ⊗ v4 ⊖ v5 ⊗ v3))
    ⊖ ((v0 ⊗ v4 ⊖ v5 ⊗ v2) ⊗ (v0 ⊗ v4 ⊖ v5 ⊗ v2) ⊕ (v1 ⊗ v4 ⊖ v5 ⊗ v3) ⊗ (v1 ⊗ v4 ⊖ v5 ⊗ v3))) tt

-- the most that the squares' sum is from 2^60
abbrev pub apart : ℕ
apart = 3700000000

squares_sum : (s c δ γ e r t : ℕ) → 0 < e → 1000 * δ ≤ 1011 * e → 1000 * γ ≤ 927 * e
    → s ≤ half_quarter_parts → c ≤ unit → 10 ^ 14 * r ≤ e * e
    → e * e * t ≤ 2 ^ 60 * r + 2 * e * (s * δ + c * γ) + (δ * δ + γ * γ)
    → t ≤ apart
squares_sum s c δ γ e r t he hδ hγ hs hc hr h =
    let f : 2 ^ 60 * r ≤ 11530 * (e * e) = omega arith in
    let g : 1000 * (s * δ + c * γ) ≤ 1847949991275 * e = omega (arith, mul-le-mul hs hδ, mul-le-mul hc hγ) in
    let k : δ * δ + γ * γ ≤ 2 * (e * e) = omega (arith, mul-le-mul hδ hδ, mul-le-mul hγ hγ) in
    let j : e * (e * t) ≤ e * (e * apart) = omega (arith, mul-le-mul_left e g) in
    le_of_mul-le-mul_left {k = e} (le_of_mul-le-mul_left {k = e} j he) he

module _ (s c σ γ : ℤ) (e : ℕ) where
  abbrev δs : ℤ
  δs = s *ℤ pos e -ℤ pos unit *ℤ σ

  abbrev δc : ℤ
  δc = c *ℤ pos e -ℤ pos unit *ℤ γ

  abbrev pub rest : ℤ
  rest = σ *ℤ σ +ℤ γ *ℤ γ -ℤ pos (e * e)

  abbrev most : ℕ
  most = 2 ^ 60 * nat_abs rest + 2 * e * (nat_abs s * nat_abs δs + nat_abs c * nat_abs δc)
      + (nat_abs δs * nat_abs δs + nat_abs δc * nat_abs δc)

  squares_size : nat_abs (pos (e * e) *ℤ (s *ℤ s +ℤ c *ℤ c -ℤ pos (2 ^ 60))) ≤ most
  squares_size =
      let m = s *ℤ δs +ℤ c *ℤ δc in
      let n = δs *ℤ δs +ℤ δc *ℤ δc in
      let u = pos (2 ^ 60) *ℤ rest in
      let v = pos (2 * e) *ℤ m in
      rw (squares_out s c σ γ (pos e) (pos unit))
      (omega (
        arith,
        abs_sub (u +ℤ v) n,
        abs_add u v,
        abs_mul (pos (2 ^ 60)) rest,
        abs_mul (pos (2 * e)) m,
        mul-le-mul_left (2 * e) (abs_add (s *ℤ δs) (c *ℤ δc)),
        abs_mul s δs,
        abs_mul c δc,
        ap (λ q. 2 * e * q) (abs_mul s δs),
        ap (λ q. 2 * e * q) (abs_mul c δc),
        abs_add (δs *ℤ δs) (δc *ℤ δc),
        abs_mul δs δs,
        abs_mul δc δc,
      ))

  pub squares_near : UpTo s half_quarter_parts → UpTo c unit → Near s σ e 1011 → Near c γ e 927
      → 10 ^ 14 * nat_abs rest ≤ e * e
      → nat_abs (s *ℤ s +ℤ c *ℤ c -ℤ pos (2 ^ 60)) ≤ apart
  squares_near hs hc ns nc hr =
      let t = s *ℤ s +ℤ c *ℤ c -ℤ pos (2 ^ 60) in
      squares_sum (nat_abs s) (nat_abs c) (nat_abs δs) (nat_abs δc) e (nat_abs rest) (nat_abs t) ns.divisor_pos
      ns.near nc.near (up_to_le s half_quarter_parts hs) (up_to_le c unit hc) hr
      (subst (λ q. q ≤ most) (abs_mul (pos (e * e)) t) squares_size)
