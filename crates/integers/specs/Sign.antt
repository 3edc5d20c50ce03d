-- Laws of every sign from those of naturals: prove it at `pos n`, and move the minus out by `simp odd`.
use Rattle.std.specs.Prelude.{◌≡◌, ℕ, suc, ℤ, pos, negsuc, neg_ℤ, ◌+ℤ◌, ◌*ℤ◌}
use Rattle.std.proofs.Common.{sym, arith}
use Rattle.std.proofs.Math.IntN.{neg_ℤ-neg_ℤ, neg_ℤ-+ℤ}
use Rattle.integers.specs.Difference.{as_less, lesses, less_eq}
use Rattle.integers.specs.Quotient.{quot_neg, rem_neg}

pub neg_mul : (x y : ℤ) → neg_ℤ x *ℤ y ≡ neg_ℤ (x *ℤ y)
neg_mul x y = rw (as_less x, as_less y) (simp lesses (less_eq _ _ _ _ (omega arith)))

pub mul_neg : (x y : ℤ) → x *ℤ neg_ℤ y ≡ neg_ℤ (x *ℤ y)
mul_neg x y = rw (as_less x, as_less y) (simp lesses (less_eq _ _ _ _ (omega arith)))

pub neg_add_neg : (x y : ℤ) → neg_ℤ x +ℤ neg_ℤ y ≡ neg_ℤ (x +ℤ y)
neg_add_neg x y = sym (neg_ℤ-+ℤ x y)

-- a sign moves out of sums, products, quotients and remainders
pub ruleset odd = (quot_neg, rem_neg, neg_mul, mul_neg, neg_add_neg, neg_ℤ-neg_ℤ)

-- what holds of every natural, and of −x where it holds of x, holds of every integer
pub by_sign : (P : ℤ → Type 0) → ((n : ℕ) → P (pos n)) → ((x : ℤ) → P x → P (neg_ℤ x)) → (x : ℤ) → P x
by_sign P f g (pos n) = f n
by_sign P f g (negsuc n) = g (pos (suc n)) (f (suc n))

-- the same of two integers
pub by_signs_lem : (P : ℤ → ℤ → Type 0) → ((m n : ℕ) → P (pos m) (pos n))
    → ((x y : ℤ) → P x y → P (neg_ℤ x) y) → ((x y : ℤ) → P x y → P x (neg_ℤ y))
    → (x y : ℤ) → P x y
by_signs_lem P f g k x y = by_sign (λ z. P z y) (λ m. by_sign (P (pos m)) (f m) (k (pos m)) y) (λ z p. g z y p) x
