-- What the ranges of the refusals say: `between`, `within`, `same`, as facts that `omega` and `Holds` read, and back.
use Rattle.std.specs.Prelude.{◌≡◌, refl, Bool, true, false, not, ◌&&◌, ℕ, ◌+◌, ◌≤◌, ◌<◌, T, ℤ, pos, negsuc, nat_abs, ◌<ℤ◌, ◌≤ℤ◌}
use Rattle.std.proofs.Common.{sym, ap, subst, ◌∙◌, arith, lt→ltb, le→leb}
use Rattle.std.specs.Int.Signed.{lt_z}
use Rattle.integers.specs.Difference.{pos_part, neg_part, pos_part_neg, neg_part_neg, lt_z_true, lt_z_false, eq_of_parts}
use Rattle.integers.specs.Size.{abs_is, abs_le}
use Rattle.rules.specs.Units.{+◌, −◌, same, between, within}

-- two tests together
and_true : (a b : Bool) → not a && not b ≡ true → (a ≡ false) × (b ≡ false)
and_true false false e = (refl, refl)
and_true false true e = (refl, sym e)
and_true true b e = (sym e, absurd (subst T (sym e) tt))

-- z is not below low, and high not below z
pub between_yes : (low high z : ℤ) → between low high z ≡ true → (lt_z z low ≡ false) × (lt_z high z ≡ false)
unfolding between
between_yes low high z e = and_true (lt_z z low) (lt_z high z) e

pub between_of : (low high z : ℤ) → lt_z z low ≡ false → lt_z high z ≡ false → between low high z ≡ true
unfolding between
between_of low high z p q = rw (p, q)

-- for `omega`
pub between_parts : (low high z : ℤ) → between low high z ≡ true
    → (pos_part low + neg_part z ≤ pos_part z + neg_part low) × (pos_part z + neg_part high ≤ pos_part high + neg_part z)
between_parts low high z e =
    let k = between_yes low high z e in
    (lt_z_false z low k.0, lt_z_false high z k.1)

-- ---- within ± n

pub within_le : (n : ℕ) (z : ℤ) → within n z ≡ true → nat_abs z ≤ n
unfolding within
within_le n z e =
    let k = between_parts (− n) (+ n) z e in
    abs_le z n (omega arith) (omega (arith, pos_part_neg (pos n), neg_part_neg (pos n)))

test_false : (x y : ℤ) → pos_part y + neg_part x ≤ pos_part x + neg_part y → lt_z x y ≡ false
test_false x y h = by (lt_z x y) (lt_z_true x y)
  where
    by : (b : Bool) → (b ≡ true → pos_part x + neg_part y < pos_part y + neg_part x) → b ≡ false
    by true f = absurd (omega (arith, f refl))
    by false f = refl

pub within_of : (n : ℕ) (z : ℤ) → nat_abs z ≤ n → within n z ≡ true
unfolding within
within_of n z h = between_of (− n) (+ n) z
    (test_false z (− n) (omega (arith, abs_is z, pos_part_neg (pos n), neg_part_neg (pos n))))
    (test_false (+ n) z (omega (arith, abs_is z)))

-- ---- from 1 on

pub positive : (n : ℕ) (z : ℤ) → between (+ 1) (+ n) z ≡ true → pos 0 <ℤ z
positive n (pos m) e = let k = between_parts (+ 1) (+ n) (pos m) e in record { lt = lt→ltb 0 m (omega arith) }
positive n (negsuc m) e = let k = between_parts (+ 1) (+ n) (negsuc m) e in absurd (omega arith)

pub positive_le : (n : ℕ) (z : ℤ) → between (+ 1) (+ n) z ≡ true → nat_abs z ≤ n
positive_le n (pos m) e = let k = between_parts (+ 1) (+ n) (pos m) e in omega arith
positive_le n (negsuc m) e = let k = between_parts (+ 1) (+ n) (negsuc m) e in absurd (omega arith)

-- ---- not below nought

pub nonnegative : (z : ℤ) → lt_z z (pos 0) ≡ false → pos 0 ≤ℤ z
nonnegative (pos n) e = record { le = le→leb 0 n (omega arith) }
nonnegative (negsuc n) e = absurd (omega (arith, lt_z_false (negsuc n) (pos 0) e))

-- ---- the same

pub same_eq : (a b : ℤ) → same a b ≡ true → a ≡ b
unfolding same
same_eq a b e =
    let k = and_true (lt_z a b) (lt_z b a) e in
    eq_of_parts a b (omega (arith, lt_z_false a b k.0, lt_z_false b a k.1))

pub same_self : (a : ℤ) → same a a ≡ true
unfolding same
same_self a = let e = test_false a a (omega arith) in rw e

-- what `n == k` in code tells
pub same_of : (a n : ℤ) → a ≡ n → same a n ≡ true
same_of a n e = ap (λ z. same z n) e ∙ same_self n

pub not_same : (a n : ℤ) → (a ≡ n → ⊥) → same a n ≡ false
not_same a n h = by (same a n) (same_eq a n)
  where
    by : (b : Bool) → (b ≡ true → a ≡ n) → b ≡ false
    by true f = absurd (h (f refl))
    by false f = refl
