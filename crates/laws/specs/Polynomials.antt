-- Polynomials in time: how far the rule is from the exact value, for any coefficients; how large a value can be.
use Rattle.std.specs.Prelude.{◌≡◌, List, [], ◌∷◌, ℕ, zero, suc, ◌+◌, ◌*◌, ◌-◌, ◌≤◌, ◌^◌, length, ℤ, pos, neg_ℤ, nat_abs, ◌+ℤ◌, ◌-ℤ◌, ◌*ℤ◌}
use Rattle.std.proofs.Common.{mul-le-mul, mul-le-mul_left, arith, lit<}
use Rattle.std.proofs.Math.Nat.{pow-succ'}
use Rattle.integers.specs.Ring.{ring, v0, v1, v2, v3, v4, v5, v6, lit, neg, ◌⊕◌, ◌⊖◌, ◌⊗◌}
use Rattle.integers.specs.Size.{abs_add, abs_mul, abs_neg}
use Rattle.rules.specs.Units.{century}
use Rattle.rules.specs.Rounding.{rnd}
use Rattle.rules.specs.Polynomials.{times_t_plus, polynomial, exact, exact_times_cube}
use Rattle.laws.specs.Rounding.{rnd_near, rnd_under}
use Rattle.laws.specs.Instant.{InRange}

-- ---- within 2 µas of the exact value, for any coefficients

-- where p is within e halves of E / k, the next value is within e + 1 halves of its own exact one
times_t_plus_near : (t p c E : ℤ) (k m e : ℕ) → m ≡ century * k → InRange t
    → 2 * nat_abs (p *ℤ pos k -ℤ E) ≤ e * k
    → 2 * nat_abs (times_t_plus t p c *ℤ pos m -ℤ (c *ℤ pos m +ℤ t *ℤ E)) ≤ suc e * m
unfolding times_t_plus
times_t_plus_near t p c E k m e em ht hp =
    let R = rnd (t *ℤ p) century in
    let X = t *ℤ p -ℤ pos century *ℤ R in
    let Y = p *ℤ pos k -ℤ E in
    rw (em, split t p c E R (pos k) (pos century))
    (omega (
      arith,
      abs_add (neg_ℤ (pos k *ℤ X)) (t *ℤ Y),
      abs_neg (pos k *ℤ X),
      abs_mul (pos k) X,
      abs_mul t Y,
      mul-le-mul_left k (rnd_near (t *ℤ p) century (lit< tt)),
      mul-le-mul ht hp,
    ))
  where
    split : (t p c E R k q : ℤ)
        → (R +ℤ c) *ℤ (q *ℤ k) -ℤ (c *ℤ (q *ℤ k) +ℤ t *ℤ E) ≡ neg_ℤ (k *ℤ (t *ℤ p -ℤ q *ℤ R)) +ℤ t *ℤ (p *ℤ k -ℤ E)
    split t p c E R k q = ring (t ∷ p ∷ c ∷ E ∷ R ∷ k ∷ q ∷ [])
        ((v4 ⊕ v2) ⊗ (v6 ⊗ v5) ⊖ (v2 ⊗ (v6 ⊗ v5) ⊕ v0 ⊗ v3))
        (neg (v5 ⊗ (v0 ⊗ v1 ⊖ v6 ⊗ v4)) ⊕ v0 ⊗ (v1 ⊗ v5 ⊖ v3)) tt

-- each power adds half a µas
halves_near : (k : ℕ) (cs : List ℤ) (t : ℤ) → length cs ≤ suc k → InRange t
    → 2 * nat_abs (polynomial cs t *ℤ pos (century ^ k) -ℤ exact k cs t) ≤ k * century ^ k
unfolding polynomial exact
halves_near k [] t h ht = omega arith
halves_near k (c ∷ []) t h ht = rw (none c (pos (century ^ k)) t) (omega arith)
  where
    none : (c m t : ℤ) → c *ℤ m -ℤ (c *ℤ m +ℤ t *ℤ pos 0) ≡ pos 0
    none c m t = ring (c ∷ m ∷ t ∷ []) (v0 ⊗ v1 ⊖ (v0 ⊗ v1 ⊕ v2 ⊗ lit (pos 0))) (lit (pos 0)) tt
halves_near zero (c ∷ d ∷ ds) t h ht = absurd (omega arith)
halves_near (suc k) (c ∷ d ∷ ds) t h ht =
    let e : suc k - 1 ≡ k = omega arith in
    rw e (times_t_plus_near t (polynomial (d ∷ ds) t) c (exact k (d ∷ ds) t) (century ^ k) (century ^ suc k) k
    (pow-succ' century k) ht (halves_near k (d ∷ ds) t (omega arith) ht))

-- the value lies within 2 µas of the exact value, "both sides times Q³"
pub polynomial_near : (cs : List ℤ) (t : ℤ) → length cs ≤ 4 → InRange t
    → nat_abs (polynomial cs t *ℤ pos (century ^ 3) -ℤ exact_times_cube cs t) ≤ 2 * century ^ 3
unfolding exact_times_cube
polynomial_near cs t h ht =
    under (nat_abs (polynomial cs t *ℤ pos (century ^ 3) -ℤ exact 3 cs t)) (century ^ 3) (halves_near 3 cs t h ht)
  where
    under : (x m : ℕ) → 2 * x ≤ 3 * m → x ≤ 2 * m
    under x m h = omega arith

-- ---- sizes

-- the coefficients' sizes, summed
abbrev pub sizes : List ℤ → ℕ
sizes [] = 0
sizes (c ∷ cs) = nat_abs c + sizes cs

pub times_t_plus_le : (t p c : ℤ) (a : ℕ) → InRange t → nat_abs p ≤ a → nat_abs (times_t_plus t p c) ≤ a + nat_abs c
unfolding times_t_plus
times_t_plus_le t p c a ht hp =
    omega (
      arith,
      abs_add (rnd (t *ℤ p) century) c,
      rnd_under (t *ℤ p) century a (lit< tt) (rw (abs_mul t p) (mul-le-mul ht hp)),
    )

pub polynomial_le : (cs : List ℤ) (t : ℤ) → InRange t → nat_abs (polynomial cs t) ≤ sizes cs
unfolding polynomial
polynomial_le [] t ht = omega arith
polynomial_le (c ∷ []) t ht = omega arith
polynomial_le (c ∷ d ∷ ds) t ht =
    omega (arith, times_t_plus_le t (polynomial (d ∷ ds) t) c (sizes (d ∷ ds)) ht (polynomial_le (d ∷ ds) t ht))
