-- Polynomials in the variables whose values are listed: coefficients by the powers of the first variable, each of them
-- a polynomial in the others. `meaning` is its value. What `ring` computes with.
use Rattle.std.specs.Prelude.{◌≡◌, refl, ℕ, zero, suc, ◌+◌, ◌*◌, ◌≤◌, Bool, true, false, ◌&&◌, List, [], ◌∷◌, map, T, eqb, ℤ, pos, negsuc, nat_abs, neg_ℤ, ◌+ℤ◌, ◌*ℤ◌}
use Rattle.std.proofs.Common.{sym, ap, arith, mul-le-mul, eqb→eq}
use Rattle.std.proofs.Math.IntN.{+ℤ_idl, +ℤ_idr, *ℤ-zero, zero-*ℤ}
use Rattle.std.proofs.Math.Facts.{and_yes}
use Rattle.integers.specs.Difference.{as_less, lesses, less_eq}
use Rattle.integers.specs.Size.{abs_add, abs_mul}

-- the value of a variable; past the last of them it is nought
abbrev pub look : List ℤ → ℕ → ℤ
look [] i = pos 0
look (x ∷ xs) zero = x
look (x ∷ xs) (suc i) = look xs i

abbrev pub Coefficients : List ℤ → Type 0
Coefficients [] = ℤ
Coefficients (x ∷ xs) = List (Coefficients xs)

abbrev pub meaning : (xs : List ℤ) → Coefficients xs → ℤ
meaning [] p = p
meaning (x ∷ xs) [] = pos 0
meaning (x ∷ xs) (c ∷ p) = meaning xs c +ℤ x *ℤ meaning (x ∷ xs) p

abbrev pub sum : (xs : List ℤ) → Coefficients xs → Coefficients xs → Coefficients xs
sum [] a b = a +ℤ b
sum (x ∷ xs) [] q = q
sum (x ∷ xs) (c ∷ p) [] = c ∷ p
sum (x ∷ xs) (c ∷ p) (d ∷ q) = sum xs c d ∷ sum (x ∷ xs) p q

abbrev pub minus : (xs : List ℤ) → Coefficients xs → Coefficients xs
minus [] a = neg_ℤ a
minus (x ∷ xs) [] = []
minus (x ∷ xs) (c ∷ p) = minus xs c ∷ minus (x ∷ xs) p

abbrev pub constant : (xs : List ℤ) → ℤ → Coefficients xs
constant [] z = z
constant (x ∷ xs) z = constant xs z ∷ []

abbrev pub product : (xs : List ℤ) → Coefficients xs → Coefficients xs → Coefficients xs
product [] a b = a *ℤ b
product (x ∷ xs) [] q = []
product (x ∷ xs) (c ∷ p) q = sum (x ∷ xs) (map (product xs c) q) (constant xs (pos 0) ∷ product (x ∷ xs) p q)

abbrev pub variable : (xs : List ℤ) → ℕ → Coefficients xs
variable [] i = pos 0
variable (x ∷ xs) zero = constant xs (pos 0) ∷ (constant xs (pos 1) ∷ [])
variable (x ∷ xs) (suc i) = variable xs i ∷ []

abbrev pub is_nought : (xs : List ℤ) → Coefficients xs → Bool
is_nought [] (pos m) = eqb m 0
is_nought [] (negsuc m) = false
is_nought (x ∷ xs) [] = true
is_nought (x ∷ xs) (c ∷ p) = is_nought xs c && is_nought (x ∷ xs) p

-- ---- what the operations mean

sum_step : (c d x p q : ℤ) → (c +ℤ d) +ℤ x *ℤ (p +ℤ q) ≡ (c +ℤ x *ℤ p) +ℤ (d +ℤ x *ℤ q)
sum_step c d x p q =
    rw (as_less c, as_less d, as_less x, as_less p, as_less q) (simp lesses (less_eq _ _ _ _ (omega arith)))

pub sum_is : (xs : List ℤ) (p q : Coefficients xs) → meaning xs (sum xs p q) ≡ meaning xs p +ℤ meaning xs q
sum_is [] p q = refl
sum_is (x ∷ xs) [] q = sym (+ℤ_idl (meaning (x ∷ xs) q))
sum_is (x ∷ xs) (c ∷ p) [] = sym (+ℤ_idr (meaning (x ∷ xs) (c ∷ p)))
sum_is (x ∷ xs) (c ∷ p) (d ∷ q) =
    rw (sum_is xs c d, sum_is (x ∷ xs) p q)
    (sum_step (meaning xs c) (meaning xs d) x (meaning (x ∷ xs) p) (meaning (x ∷ xs) q))

minus_step : (c x p : ℤ) → neg_ℤ c +ℤ x *ℤ neg_ℤ p ≡ neg_ℤ (c +ℤ x *ℤ p)
minus_step c x p = rw (as_less c, as_less x, as_less p) (simp lesses (less_eq _ _ _ _ (omega arith)))

pub minus_is : (xs : List ℤ) (p : Coefficients xs) → meaning xs (minus xs p) ≡ neg_ℤ (meaning xs p)
minus_is [] p = refl
minus_is (x ∷ xs) [] = refl
minus_is (x ∷ xs) (c ∷ p) =
    rw (minus_is xs c, minus_is (x ∷ xs) p) (minus_step (meaning xs c) x (meaning (x ∷ xs) p))

pub constant_is : (xs : List ℤ) (z : ℤ) → meaning xs (constant xs z) ≡ z
constant_is [] z = refl
constant_is (x ∷ xs) z = rw (constant_is xs z, *ℤ-zero x) (+ℤ_idr z)

scale_step : (k d x q : ℤ) → k *ℤ d +ℤ x *ℤ (k *ℤ q) ≡ k *ℤ (d +ℤ x *ℤ q)
scale_step k d x q =
    rw (as_less k, as_less d, as_less x, as_less q) (simp lesses (less_eq _ _ _ _ (omega arith)))

scale_is : (x : ℤ) (xs : List ℤ) (k : ℤ) (f : Coefficients xs → Coefficients xs)
    → ((d : Coefficients xs) → meaning xs (f d) ≡ k *ℤ meaning xs d)
    → (q : Coefficients (x ∷ xs)) → meaning (x ∷ xs) (map f q) ≡ k *ℤ meaning (x ∷ xs) q
scale_is x xs k f h [] = sym (*ℤ-zero k)
scale_is x xs k f h (d ∷ q) =
    rw (h d, scale_is x xs k f h q) (scale_step k (meaning xs d) x (meaning (x ∷ xs) q))

product_step : (c x p q : ℤ) → c *ℤ q +ℤ (pos 0 +ℤ x *ℤ (p *ℤ q)) ≡ (c +ℤ x *ℤ p) *ℤ q
product_step c x p q =
    rw (as_less c, as_less x, as_less p, as_less q) (simp lesses (less_eq _ _ _ _ (omega arith)))

pub product_is : (xs : List ℤ) (p q : Coefficients xs) → meaning xs (product xs p q) ≡ meaning xs p *ℤ meaning xs q
product_is [] p q = refl
product_is (x ∷ xs) [] q = sym (zero-*ℤ (meaning (x ∷ xs) q))
product_is (x ∷ xs) (c ∷ p) q =
    rw (
      sum_is (x ∷ xs) (map (product xs c) q) (constant xs (pos 0) ∷ product (x ∷ xs) p q),
      scale_is x xs (meaning xs c) (product xs c) (product_is xs c) q,
      constant_is xs (pos 0),
      product_is (x ∷ xs) p q,
    )
    (product_step (meaning xs c) x (meaning (x ∷ xs) p) (meaning (x ∷ xs) q))

variable_step : (x : ℤ) → pos 0 +ℤ x *ℤ (pos 1 +ℤ x *ℤ pos 0) ≡ x
variable_step x = rw (as_less x) (simp lesses (less_eq _ _ _ _ (omega arith)))

pub variable_is : (xs : List ℤ) (i : ℕ) → meaning xs (variable xs i) ≡ look xs i
variable_is [] i = refl
variable_is (x ∷ xs) zero = rw (constant_is xs (pos 0), constant_is xs (pos 1)) (variable_step x)
variable_is (x ∷ xs) (suc i) = rw (variable_is xs i, *ℤ-zero x) (+ℤ_idr (look xs i))

pub nought_is : (xs : List ℤ) (p : Coefficients xs) → T (is_nought xs p) → meaning xs p ≡ pos 0
nought_is [] (pos m) h = ap pos (eqb→eq m 0 h)
nought_is [] (negsuc m) h = absurd h
nought_is (x ∷ xs) [] h = refl
nought_is (x ∷ xs) (c ∷ p) h =
    let k = and_yes (is_nought xs c) (is_nought (x ∷ xs) p) h in
    rw (nought_is xs c k.0, nought_is (x ∷ xs) p k.1, *ℤ-zero x)

-- ---- of one variable

-- the sizes of the coefficients, at a variable of size m
abbrev pub size_at : (x : ℤ) → ℕ → Coefficients (x ∷ []) → ℕ
size_at x m [] = 0
size_at x m (c ∷ p) = nat_abs c + m * size_at x m p

pub meaning_le : (x : ℤ) (m : ℕ) → nat_abs x ≤ m → (p : Coefficients (x ∷ []))
    → nat_abs (meaning (x ∷ []) p) ≤ size_at x m p
meaning_le x m h [] = omega arith
meaning_le x m h (c ∷ p) =
    omega (
      arith,
      abs_add c (x *ℤ meaning (x ∷ []) p),
      abs_mul x (meaning (x ∷ []) p),
      mul-le-mul h (meaning_le x m h p),
    )
