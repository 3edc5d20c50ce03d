-- `rnd` is the nearest whole number, a half goes away from zero, and no second number does both. `rnd_ge` and
-- `rnd_le_of` are what ranges cite.
use Rattle.std.specs.Prelude.{◌≡◌, refl, [], ◌∷◌, ℕ, suc, ◌+◌, ◌*◌, ◌-◌, ◌≤◌, ◌<◌, ℤ, pos, negsuc, neg_ℤ, nat_abs, ◌+ℤ◌, ◌-ℤ◌, ◌*ℤ◌, ◌≤ℤ◌}
use Rattle.std.proofs.Common.{sym, ap, ◌∙◌, subst, lt_of_not-le, arith}
use Rattle.std.proofs.Math.Decide.{dec_lt}
use Rattle.std.proofs.Math.IntN.{neg_ℤ-neg_ℤ}
use Rattle.integers.specs.Difference.{add_is, sub_is}
use Rattle.integers.specs.Size.{abs_neg, abs_mul, abs_is, parts_apart}
use Rattle.integers.specs.Sign.{mul_neg, by_sign}
use Rattle.integers.specs.Ring.{ring, v0, v1, v2, v3, neg, lit, ◌⊕◌, ◌⊖◌, ◌⊗◌}
use Rattle.integers.specs.Order.{Nonneg, nonneg_pos, nonneg_parts, nonneg_of_le, le_of_nonneg, neg_le_neg}
use Rattle.rules.specs.Rounding.{rnd}
use Rattle.laws.specs.Rounding.{rnd_near, abs_rnd, rest_size, rnd_size_low, rnd_size_high, rnd_neg, rnd_pos}
use Rattle.laws.specs.Rounding.{rnd_size_is}

-- r is the nearest whole number to x / d, halves away from zero: what is left over is at most half of d,
-- and where it is just half of d, r is no nearer to zero than x / d
pub record Nearest (x : ℤ) (d : ℕ) (r : ℤ) : Type 0 where
  pub near : 2 * nat_abs (x -ℤ pos d *ℤ r) ≤ d
  pub away : 2 * nat_abs (x -ℤ pos d *ℤ r) ≡ d → nat_abs x ≤ d * nat_abs r

pub rnd_nearest : (x : ℤ) (d : ℕ) → 0 < d → Nearest x d (rnd x d)
rnd_nearest x d h = record {
  near = rnd_near x d h;
  away = λ e. rw (abs_rnd x d)
      (omega (arith, rw (rest_size x d) at e, rnd_size_low (nat_abs x) d, rnd_size_high (nat_abs x) d h));
}

pub nearest_one : (x : ℤ) (d : ℕ) (r : ℤ) → 0 < d → Nearest x d r → rnd x d ≡ r
nearest_one x d r h p = by_sign (λ x. (r : ℤ) → Nearest x d r → rnd x d ≡ r)
    (λ n r p. of_size n r p)
    (λ y k r p. rw (rnd_neg y d) (ap neg_ℤ (k (neg_ℤ r) (turned y r p)) ∙ neg_ℤ-neg_ℤ r))
    x r p
  where
    -- the same of −x and −r
    turned : (y r : ℤ) → Nearest (neg_ℤ y) d r → Nearest y d (neg_ℤ r)
    turned y r p =
        let e : y -ℤ pos d *ℤ neg_ℤ r ≡ neg_ℤ (neg_ℤ y -ℤ pos d *ℤ r) =
        ring (y ∷ pos d ∷ r ∷ []) (v0 ⊖ v1 ⊗ neg v2) (neg (neg v0 ⊖ v1 ⊗ v2)) tt in
        record {
          near = rw (e, abs_neg (neg_ℤ y -ℤ pos d *ℤ r)) p.near;
          away = λ w. rw (abs_neg r) (subst (λ m. m ≤ d * nat_abs r) (abs_neg y)
              (p.away (rw (e, abs_neg (neg_ℤ y -ℤ pos d *ℤ r)) at w)));
        }

    rest : (n m : ℕ) → nat_abs (pos n -ℤ pos (d * m)) ≡ (n - d * m) + (d * m - n)
    rest n m =
        let z = pos n -ℤ pos (d * m) in
        omega (arith, sub_is (pos n) (pos (d * m)), abs_is z, parts_apart z)

    -- above it by half of d it would be a half rounded toward zero
    below : (n m : ℕ) → Nearest (pos n) d (pos m) → Dec (2 * n < 2 * (d * m) + d) → 2 * n < 2 * (d * m) + d
    below n m p (yes k) = k
    below n m p (no k) =
        let s = rest n m in
        absurd (omega (arith, lt_of_not_lt k, p.near, p.away (omega (arith, lt_of_not_lt k, p.near))))
      where
        lt_of_not_lt : {a b : ℕ} → ¬ (a < b) → b ≤ a
        lt_of_not_lt {a} {b} k = omega (arith, lt_of_not-le k)

    of_size : (n : ℕ) (r : ℤ) → Nearest (pos n) d r → rnd (pos n) d ≡ r
    of_size n (pos m) p =
        let s = rest n m in
        rw (rnd_pos n d)
        (ap pos (rnd_size_is n d m (omega (arith, p.near)) (below n m p (dec_lt (2 * n) (2 * (d * m) + d)))))
    of_size n (negsuc m) p = absurd (omega (arith, p.near, far n m))
      where
        far : (n m : ℕ) → nat_abs (pos n -ℤ pos d *ℤ negsuc m) ≡ n + d * suc m
        far n m = abs_add_pos n (d * suc m)
            (ring (pos n ∷ pos d ∷ pos (suc m) ∷ []) (v0 ⊖ v1 ⊗ neg v2) (v0 ⊕ v1 ⊗ v2) tt)
          where
            abs_add_pos : (a b : ℕ) {z : ℤ} → z ≡ pos (a + b) → nat_abs z ≡ a + b
            abs_add_pos a b e = ap nat_abs e

-- ---- ranges and multiples

pub rnd_exact : (q : ℤ) (d : ℕ) → 0 < d → rnd (pos d *ℤ q) d ≡ q
rnd_exact q d h = nearest_one (pos d *ℤ q) d q h (record {
  near = rw (none (pos d *ℤ q)) (omega arith);
  away = λ e. rw (abs_mul (pos d) q) (omega arith);
})
  where
    none : (x : ℤ) → x -ℤ x ≡ pos 0
    none x = ring (x ∷ []) (v0 ⊖ v0) (lit (pos 0)) tt

-- l d ≤ x ≤ h d gives l ≤ rnd x d ≤ h
pub rnd_ge : (x l : ℤ) (d : ℕ) → 0 < d → (pos d *ℤ l) ≤ℤ x → l ≤ℤ rnd x d
rnd_ge x l d h k =
    le_of_nonneg l (rnd x d) (below (rnd x d -ℤ l) refl)
  where
    -- were it lower by one or more, a whole d and more would be left over
    below : (e : ℤ) → rnd x d -ℤ l ≡ e → Nonneg e
    below (pos n) q = nonneg_pos n
    below (negsuc n) q =
        let y = x -ℤ pos d *ℤ l in
        let s : x -ℤ pos d *ℤ rnd x d ≡ y +ℤ pos d *ℤ neg_ℤ (rnd x d -ℤ l) =
        ring (x ∷ pos d ∷ rnd x d ∷ l ∷ []) (v0 ⊖ v1 ⊗ v2) (v0 ⊖ v1 ⊗ v3 ⊕ v1 ⊗ neg (v2 ⊖ v3)) tt in
        let t : x -ℤ pos d *ℤ rnd x d ≡ y +ℤ pos (d * suc n) = s ∙ ap (λ z. y +ℤ pos d *ℤ neg_ℤ z) q in
        absurd (omega (
          arith,
          rnd_near x d h,
          ap nat_abs t,
          abs_is (y +ℤ pos (d * suc n)),
          add_is y (pos (d * suc n)),
          nonneg_parts y (nonneg_of_le (pos d *ℤ l) x k),
        ))

pub rnd_le_of : (x u : ℤ) (d : ℕ) → 0 < d → x ≤ℤ (pos d *ℤ u) → rnd x d ≤ℤ u
rnd_le_of x u d h k =
    subst (λ z. z ≤ℤ u) (ap neg_ℤ (rnd_neg x d) ∙ neg_ℤ-neg_ℤ (rnd x d))
    (subst (λ z. neg_ℤ (rnd (neg_ℤ x) d) ≤ℤ z) (neg_ℤ-neg_ℤ u)
    (neg_le_neg (neg_ℤ u) (rnd (neg_ℤ x) d) (rnd_ge (neg_ℤ x) (neg_ℤ u) d h
    (subst (λ z. z ≤ℤ neg_ℤ x) (sym (mul_neg (pos d) u)) (neg_le_neg x (pos d *ℤ u) k)))))
