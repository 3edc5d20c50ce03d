-- Identities of polynomials over ℤ, by computing. With `xs` the values of the variables v0, v1, ..,
--     ring xs s t tt : value xs s ≡ value xs t
-- where s and t are the two sides written as terms. A false identity is refused at `tt`.
-- `bounded` bounds a polynomial in one variable by the sizes of its coefficients.
use Rattle.std.specs.Prelude.{◌≡◌, ℕ, ◌≤◌, List, [], ◌∷◌, T, leb, ℤ, nat_abs, neg_ℤ, ◌+ℤ◌, ◌*ℤ◌}
use Rattle.std.proofs.Common.{sym, ap, ◌∙◌, arith, leb→le}
use Rattle.std.proofs.Math.IntN.{+ℤ_idl, -ℤ-+ℤ_cancel}
use Rattle.integers.specs.Coefficients.{look, Coefficients, variable, constant, sum, product, minus, meaning}
use Rattle.integers.specs.Coefficients.{variable_is, constant_is, sum_is, product_is, minus_is, is_nought}
use Rattle.integers.specs.Coefficients.{nought_is, size_at, meaning_le}

-- ---- terms

infixl 6 ◌⊕◌ ◌⊖◌
infixl 7 ◌⊗◌
pub data Term : Type 0 where
  var : ℕ → Term
  lit : ℤ → Term
  ◌⊕◌ ◌⊗◌ : Term → Term → Term
  neg : Term → Term

-- x -ℤ y is x +ℤ neg_ℤ y
abbrev pub ◌⊖◌ : Term → Term → Term
s ⊖ t = s ⊕ neg t

abbrev pub square : Term → Term
square t = t ⊗ t

-- what a term says of the values
abbrev pub value : List ℤ → Term → ℤ
value xs (var i) = look xs i
value xs (lit z) = z
value xs (s ⊕ t) = value xs s +ℤ value xs t
value xs (s ⊗ t) = value xs s *ℤ value xs t
value xs (neg t) = neg_ℤ (value xs t)

abbrev pub v0 : Term
v0 = var 0

abbrev pub v1 : Term
v1 = var 1

abbrev pub v2 : Term
v2 = var 2

abbrev pub v3 : Term
v3 = var 3

abbrev pub v4 : Term
v4 = var 4

abbrev pub v5 : Term
v5 = var 5

abbrev pub v6 : Term
v6 = var 6

abbrev pub v7 : Term
v7 = var 7

abbrev pub v8 : Term
v8 = var 8

abbrev pub v9 : Term
v9 = var 9

-- ---- a normal form means what its term says

abbrev pub normal : (xs : List ℤ) → Term → Coefficients xs
normal xs (var i) = variable xs i
normal xs (lit z) = constant xs z
normal xs (s ⊕ t) = sum xs (normal xs s) (normal xs t)
normal xs (s ⊗ t) = product xs (normal xs s) (normal xs t)
normal xs (neg t) = minus xs (normal xs t)

normal_is : (xs : List ℤ) (t : Term) → meaning xs (normal xs t) ≡ value xs t
normal_is xs (var i) = variable_is xs i
normal_is xs (lit z) = constant_is xs z
normal_is xs (s ⊕ t) = rw (sum_is xs (normal xs s) (normal xs t), normal_is xs s, normal_is xs t)
normal_is xs (s ⊗ t) = rw (product_is xs (normal xs s) (normal xs t), normal_is xs s, normal_is xs t)
normal_is xs (neg t) = rw (minus_is xs (normal xs t), normal_is xs t)

-- ---- the two tools

pub ring : (xs : List ℤ) (s t : Term) → T (is_nought xs (normal xs (s ⊖ t))) → value xs s ≡ value xs t
ring xs s t h =
    sym (-ℤ-+ℤ_cancel (value xs s) (value xs t))
    ∙ ap (λ z. z +ℤ value xs t) (sym (normal_is xs (s ⊖ t)) ∙ nought_is xs (normal xs (s ⊖ t)) h)
    ∙ +ℤ_idl (value xs t)

-- |t| ≤ b where |x| ≤ m, by computing
pub bounded : (t : Term) (x : ℤ) (m b : ℕ) → nat_abs x ≤ m
    → T (leb (size_at x m (normal (x ∷ []) t)) b) → nat_abs (value (x ∷ []) t) ≤ b
bounded t x m b h k =
    rw (sym (normal_is (x ∷ []) t))
    (omega (arith, meaning_le x m h (normal (x ∷ []) t), leb→le (size_at x m (normal (x ∷ []) t)) b k))
