-- Nearness (docs/MATHEMATICS.md, "Nearness"): a whole number p is the fraction n / d of 2^30 parts, within e
-- thousandths of a part. What keeps it: `near_scale`, `near_moved`, `near_of_le` (A0), `near_product` (A1), `near_less`
-- (A2).
use Rattle.std.specs.Prelude.{◌≡◌, [], ◌∷◌, ℕ, ◌+◌, ◌*◌, ◌≤◌, ◌<◌, ℤ, pos, nat_abs, ◌+ℤ◌, ◌-ℤ◌, ◌*ℤ◌}
use Rattle.std.proofs.Common.{sym, ap, subst, mul-le-mul, mul-le-mul_left, mul-le-mul_right, mul-pos, arith, lit<}
use Rattle.integers.specs.Size.{abs_add, abs_sub, abs_mul}
use Rattle.integers.specs.Ring.{ring, v0, v1, v2, v3, v4, v5, v6, v7, ◌⊕◌, ◌⊖◌, ◌⊗◌, lit}
use Rattle.rules.specs.Units.{unit}
use Rattle.rules.specs.Rounding.{rnd}
use Rattle.laws.specs.Rounding.{rnd_near}

-- p is 2^30 n / d, within e thousandths of a part
pub record Near (p n : ℤ) (d e : ℕ) : Type 0 where
  pub divisor_pos : 0 < d
  pub near : 1000 * nat_abs (p *ℤ pos d -ℤ pos unit *ℤ n) ≤ e * d

-- ---- a fraction multiplied above and below, a part moved, a looser bound

pub near_scale : (m : ℕ) (p n : ℤ) (d e : ℕ) → 0 < m → Near p n d e → Near p (pos m *ℤ n) (m * d) e
near_scale m p n d e h a = record {
  divisor_pos = mul-pos h a.divisor_pos;
  near = rw (out (pos m) p n (pos d), abs_mul (pos m) (p *ℤ pos d -ℤ pos unit *ℤ n))
      (omega (arith, mul-le-mul_left m a.near));
}
  where
    out : (m p n d : ℤ) → p *ℤ (m *ℤ d) -ℤ pos unit *ℤ (m *ℤ n) ≡ m *ℤ (p *ℤ d -ℤ pos unit *ℤ n)
    out m p n d = ring (m ∷ p ∷ n ∷ d ∷ [])
        (v1 ⊗ (v0 ⊗ v3) ⊖ lit (pos unit) ⊗ (v0 ⊗ v2)) (v0 ⊗ (v1 ⊗ v3 ⊖ lit (pos unit) ⊗ v2)) tt

pub near_moved : (p r n : ℤ) (d e g : ℕ) → nat_abs (r -ℤ p) ≤ g → Near p n d e → Near r n d (e + 1000 * g)
near_moved p r n d e g h a = record {
  divisor_pos = a.divisor_pos;
  near = rw (out p r n (pos d))
      (omega (
        arith,
        abs_add ((r -ℤ p) *ℤ pos d) (p *ℤ pos d -ℤ pos unit *ℤ n),
        abs_mul (r -ℤ p) (pos d),
        mul-le-mul_right d h,
        a.near,
      ));
}
  where
    out : (p r n d : ℤ) → r *ℤ d -ℤ pos unit *ℤ n ≡ (r -ℤ p) *ℤ d +ℤ (p *ℤ d -ℤ pos unit *ℤ n)
    out p r n d = ring (p ∷ r ∷ n ∷ d ∷ [])
        (v1 ⊗ v3 ⊖ lit (pos unit) ⊗ v2) ((v1 ⊖ v0) ⊗ v3 ⊕ (v0 ⊗ v3 ⊖ lit (pos unit) ⊗ v2)) tt

pub near_of_le : (p n : ℤ) (d e g : ℕ) → e ≤ g → Near p n d e → Near p n d g
near_of_le p n d e g h a =
    record { divisor_pos = a.divisor_pos; near = omega (arith, a.near, mul-le-mul_right d h) }

-- the fraction is no larger than the number allows
pub near_le : (p n : ℤ) (d e x α : ℕ) → nat_abs p ≤ x → 1000 * x + e ≤ α * unit → Near p n d e
    → 1000 * nat_abs n ≤ α * d
near_le p n d e x α hx h a =
    over (nat_abs n) d e x α (nat_abs p) (nat_abs (p *ℤ pos d -ℤ pos unit *ℤ n)) hx h a.near
    (omega (
      arith,
      abs_mul (pos unit) n,
      ap nat_abs (out p n (pos d)),
      abs_sub (p *ℤ pos d) (p *ℤ pos d -ℤ pos unit *ℤ n),
      abs_mul p (pos d),
    ))
  where
    out : (p n d : ℤ) → pos unit *ℤ n ≡ p *ℤ d -ℤ (p *ℤ d -ℤ pos unit *ℤ n)
    out p n d = ring (p ∷ n ∷ d ∷ []) (lit (pos unit) ⊗ v1) (v0 ⊗ v2 ⊖ (v0 ⊗ v2 ⊖ lit (pos unit) ⊗ v1)) tt

    over : (n d e x α p t : ℕ) → p ≤ x → 1000 * x + e ≤ α * unit → 1000 * t ≤ e * d → unit * n ≤ p * d + t
        → 1000 * n ≤ α * d
    over n d e x α p t hx h a k = omega (arith, mul-le-mul_right d hx, mul-le-mul_right d h)

-- ---- the rounded product of two, over k: α bounds the first fraction and β the second number, in thousandths

product_out : (a b n m d c k q : ℤ) → pos unit *ℤ (q *ℤ (k *ℤ (d *ℤ c)) -ℤ pos unit *ℤ (n *ℤ m))
    ≡ (a *ℤ d -ℤ pos unit *ℤ n) *ℤ (b *ℤ c) +ℤ pos unit *ℤ (n *ℤ (b *ℤ c -ℤ pos unit *ℤ m))
    -ℤ (a *ℤ b -ℤ pos unit *ℤ k *ℤ q) *ℤ (d *ℤ c)
product_out a b n m d c k q = ring (a ∷ b ∷ n ∷ m ∷ d ∷ c ∷ k ∷ q ∷ [])
    (lit (pos unit) ⊗ (v7 ⊗ (v6 ⊗ (v4 ⊗ v5)) ⊖ lit (pos unit) ⊗ (v2 ⊗ v3)))
    ((v0 ⊗ v4 ⊖ lit (pos unit) ⊗ v2) ⊗ (v1 ⊗ v5) ⊕ lit (pos unit) ⊗ (v2 ⊗ (v1 ⊗ v5 ⊖ lit (pos unit) ⊗ v3))
    ⊖ (v0 ⊗ v1 ⊖ lit (pos unit) ⊗ v6 ⊗ v7) ⊗ (v4 ⊗ v5)) tt

-- over ℕ: x is what the rounding left over, y and z the errors of a and b
product_sum : (x y z b n d c k α β f g e t : ℕ) → 2 * x ≤ unit * k → 1000 * y ≤ f * d → 1000 * z ≤ g * c
    → 1000 * n ≤ α * d → 1000 * b ≤ β * unit → 500000 * k + α * g + β * f ≤ 1000 * (k * e)
    → unit * t ≤ y * (b * c) + unit * (n * z) + x * (d * c)
    → 1000 * t ≤ e * (k * (d * c))
product_sum x y z b n d c k α β f g e t hx hy hz hn hb he ht =
    omega (
      arith,
      mul-le-mul_right (d * c) hx,
      mul-le-mul_right c (mul-le-mul hy hb),
      mul-le-mul hn hz,
      mul-le-mul_right (d * c) he,
    )

pub near_product : (a b n m : ℤ) (d c k α β f g e : ℕ) → Near a n d f → Near b m c g
    → 1000 * nat_abs n ≤ α * d → 1000 * nat_abs b ≤ β * unit → 0 < k
    → 500000 * k + α * g + β * f ≤ 1000 * (k * e)
    → Near (rnd (a *ℤ b) (unit * k)) (n *ℤ m) (k * (d * c)) e
near_product a b n m d c k α β f g e p r hn hb hk he =
    let q = rnd (a *ℤ b) (unit * k) in
    let X = a *ℤ b -ℤ pos (unit * k) *ℤ q in
    let Y = a *ℤ pos d -ℤ pos unit *ℤ n in
    let Z = b *ℤ pos c -ℤ pos unit *ℤ m in
    let W = q *ℤ pos (k * (d * c)) -ℤ pos unit *ℤ (n *ℤ m) in
    let most = nat_abs Y * (nat_abs b * c) + unit * (nat_abs n * nat_abs Z) + nat_abs X * (d * c) in
    record {
      divisor_pos = mul-pos hk (mul-pos p.divisor_pos r.divisor_pos);
      near = product_sum (nat_abs X) (nat_abs Y) (nat_abs Z) (nat_abs b) (nat_abs n) d c k α β f g e (nat_abs W)
          (rnd_near (a *ℤ b) (unit * k) (omega arith)) p.near r.near hn hb he
          (subst (λ z. z ≤ most) (abs_mul (pos unit) W)
          (subst (λ z. nat_abs z ≤ most) (sym (product_out a b n m (pos d) (pos c) (pos k) q))
          (omega (
            arith,
            abs_sub (Y *ℤ (b *ℤ pos c) +ℤ pos unit *ℤ (n *ℤ Z)) (X *ℤ pos (d * c)),
            abs_add (Y *ℤ (b *ℤ pos c)) (pos unit *ℤ (n *ℤ Z)),
            abs_mul X (pos (d * c)),
            abs_mul Y (b *ℤ pos c),
            ap (λ z. nat_abs Y * z) (abs_mul b (pos c)),
            abs_mul (pos unit) (n *ℤ Z),
            abs_mul n Z,
          ))));
    }

-- over one
pub near_product_one : (a b n m : ℤ) (d c α β f g e : ℕ) → Near a n d f → Near b m c g
    → 1000 * nat_abs n ≤ α * d → 1000 * nat_abs b ≤ β * unit → 500000 + α * g + β * f ≤ 1000 * e
    → Near (rnd (a *ℤ b) unit) (n *ℤ m) (d * c) e
near_product_one a b n m d c α β f g e p r hn hb he =
    subst (λ x. Near (rnd (a *ℤ b) unit) (n *ℤ m) x e) (one (d * c))
    (near_product a b n m d c 1 α β f g e p r hn hb (lit< tt) (omega arith))
  where
    one : (x : ℕ) → 1 * x ≡ x
    one x = omega arith

-- ---- one over j, less a fraction

pub near_less : (q r n : ℤ) (j d f e : ℕ) → Near q (pos 1) j f → Near r n d e
    → Near (q -ℤ r) (pos d -ℤ pos j *ℤ n) (j * d) (f + e)
near_less q r n j d f e a b =
    let Y = q *ℤ pos j -ℤ pos unit *ℤ pos 1 in
    let Z = r *ℤ pos d -ℤ pos unit *ℤ n in
    record {
      divisor_pos = mul-pos a.divisor_pos b.divisor_pos;
      near = rw (out q r n (pos j) (pos d))
          (omega (
            arith,
            abs_sub (pos d *ℤ Y) (pos j *ℤ Z),
            abs_mul (pos d) Y,
            abs_mul (pos j) Z,
            mul-le-mul_left d a.near,
            mul-le-mul_left j b.near,
          ));
    }
  where
    out : (q r n j d : ℤ) → (q -ℤ r) *ℤ (j *ℤ d) -ℤ pos unit *ℤ (d -ℤ j *ℤ n)
        ≡ d *ℤ (q *ℤ j -ℤ pos unit *ℤ pos 1) -ℤ j *ℤ (r *ℤ d -ℤ pos unit *ℤ n)
    out q r n j d = ring (q ∷ r ∷ n ∷ j ∷ d ∷ [])
        ((v0 ⊖ v1) ⊗ (v3 ⊗ v4) ⊖ lit (pos unit) ⊗ (v4 ⊖ v3 ⊗ v2))
        (v4 ⊗ (v0 ⊗ v3 ⊖ lit (pos unit) ⊗ lit (pos 1)) ⊖ v3 ⊗ (v1 ⊗ v4 ⊖ lit (pos unit) ⊗ v2)) tt
