-- The order of ℤ: laws of `◌≤ℤ◌`, and `certify`, orders by certificate. A goal 0 ≤ g follows from hypotheses 0 ≤ h
-- where g is, as a polynomial, a sum of products of hypotheses with natural coefficients: the certificate lists the
-- products, and `ring` checks that the sum is g.
use Rattle.std.specs.Prelude.{◌≡◌, refl, List, [], ◌∷◌, ℕ, zero, suc, ◌+◌, ◌≤◌, T, ℤ, pos, negsuc, neg_ℤ, nat_abs, ◌+ℤ◌, ◌-ℤ◌, ◌*ℤ◌, ◌≤ℤ◌}
use Rattle.std.proofs.Common.{sym, subst, arith, leb→le, le→leb}
use Rattle.std.specs.Int.Signed.{non_neg}
use Rattle.integers.specs.Difference.{pos_part, neg_part, pos_part_neg, neg_part_neg, add_is, sub_is, eq_of_parts}
use Rattle.integers.specs.Size.{abs_le}
use Rattle.integers.specs.Coefficients.{is_nought}
use Rattle.integers.specs.Ring.{Term, lit, ◌⊕◌, ◌⊖◌, ◌⊗◌, v0, v1, v2, value, normal, ring}

-- ---- not negative

pub record Nonneg (z : ℤ) : Type 0 where
  pub yes : T (non_neg z)

pub nonneg_pos : (n : ℕ) → Nonneg (pos n)
nonneg_pos n = record { yes = tt }

pub nonneg_add : (a b : ℤ) → Nonneg a → Nonneg b → Nonneg (a +ℤ b)
nonneg_add (pos a) (pos b) h k = record { yes = tt }
nonneg_add (pos a) (negsuc b) h k = absurd k.yes
nonneg_add (negsuc a) b h k = absurd h.yes

pub nonneg_mul : (a b : ℤ) → Nonneg a → Nonneg b → Nonneg (a *ℤ b)
nonneg_mul (pos a) (pos b) h k = record { yes = tt }
nonneg_mul (pos a) (negsuc b) h k = absurd k.yes
nonneg_mul (negsuc a) b h k = absurd h.yes

pub nonneg_square : (a : ℤ) → Nonneg (a *ℤ a)
nonneg_square (pos a) = record { yes = tt }
nonneg_square (negsuc a) = record { yes = tt }

-- the part that is not nought
pub nonneg_parts : (z : ℤ) → Nonneg z → neg_part z ≡ 0
nonneg_parts (pos n) h = refl
nonneg_parts (negsuc n) h = absurd h.yes

pub nonneg_of_parts : (z : ℤ) → neg_part z ≤ pos_part z → Nonneg z
nonneg_of_parts (pos n) h = record { yes = tt }
nonneg_of_parts (negsuc n) h = absurd (omega arith)

-- ---- the order, by differences that are not negative

le_parts : (x y : ℤ) → x ≤ℤ y → pos_part x + neg_part y ≤ pos_part y + neg_part x
le_parts (pos a) (pos b) h = omega (arith, leb→le a b h.le)
le_parts (pos a) (negsuc b) h = absurd h.le
le_parts (negsuc a) (pos b) h = omega arith
le_parts (negsuc a) (negsuc b) h = omega (arith, leb→le b a h.le)

le_of_parts : (x y : ℤ) → pos_part x + neg_part y ≤ pos_part y + neg_part x → x ≤ℤ y
le_of_parts (pos a) (pos b) h = record { le = le→leb a b (omega arith) }
le_of_parts (pos a) (negsuc b) h = absurd (omega arith)
le_of_parts (negsuc a) (pos b) h = record { le = tt }
le_of_parts (negsuc a) (negsuc b) h = record { le = le→leb b a (omega arith) }

pub nonneg_of_le : (x y : ℤ) → x ≤ℤ y → Nonneg (y -ℤ x)
nonneg_of_le x y h = nonneg_of_parts (y -ℤ x) (omega (arith, sub_is y x, le_parts x y h))

pub le_of_nonneg : (x y : ℤ) → Nonneg (y -ℤ x) → x ≤ℤ y
le_of_nonneg x y h = le_of_parts x y (omega (arith, sub_is y x, nonneg_parts (y -ℤ x) h))

pub ≤ℤ_trans : (x y z : ℤ) → x ≤ℤ y → y ≤ℤ z → x ≤ℤ z
≤ℤ_trans x y z h k = le_of_parts x z (omega (arith, le_parts x y h, le_parts y z k))

pub ≤ℤ_antisymm : (x y : ℤ) → x ≤ℤ y → y ≤ℤ x → x ≡ y
≤ℤ_antisymm x y h k = eq_of_parts x y (omega (arith, le_parts x y h, le_parts y x k))

pub ≤ℤ_add : (x y u v : ℤ) → x ≤ℤ y → u ≤ℤ v → (x +ℤ u) ≤ℤ (y +ℤ v)
≤ℤ_add x y u v h k =
    le_of_parts (x +ℤ u) (y +ℤ v) (omega (arith, le_parts x y h, le_parts u v k, add_is x u, add_is y v))

pub ≤ℤ_mul : (k x y : ℤ) → Nonneg k → x ≤ℤ y → (k *ℤ x) ≤ℤ (k *ℤ y)
≤ℤ_mul k x y p h =
    le_of_nonneg (k *ℤ x) (k *ℤ y)
    (subst Nonneg (ring (k ∷ x ∷ y ∷ []) (v0 ⊗ (v2 ⊖ v1)) (v0 ⊗ v2 ⊖ v0 ⊗ v1) tt)
    (nonneg_mul k (y -ℤ x) p (nonneg_of_le x y h)))

pub neg_le_neg : (x y : ℤ) → x ≤ℤ y → neg_ℤ y ≤ℤ neg_ℤ x
neg_le_neg x y h =
    le_of_parts (neg_ℤ y) (neg_ℤ x)
    (omega (arith, le_parts x y h, pos_part_neg x, neg_part_neg x, pos_part_neg y, neg_part_neg y))

-- a size, from both sides
pub abs_le_of_nonneg : (x : ℤ) (b : ℕ) → Nonneg (pos b -ℤ x) → Nonneg (pos b +ℤ x) → nat_abs x ≤ b
abs_le_of_nonneg x b h k = abs_le x b
    (omega (arith, sub_is (pos b) x, nonneg_parts (pos b -ℤ x) h))
    (omega (arith, add_is (pos b) x, nonneg_parts (pos b +ℤ x) k))

-- ---- certificates

pub data All (xs : List ℤ) : List Term → Type 0 where
  none : All xs []
  both : {h : Term} {hs : List Term} → Nonneg (value xs h) → All xs hs → All xs (h ∷ hs)

abbrev pub hypothesis : List Term → ℕ → Term
hypothesis [] i = lit (pos 0)
hypothesis (h ∷ hs) zero = h
hypothesis (h ∷ hs) (suc i) = hypothesis hs i

abbrev pub product_of : List Term → List ℕ → Term
product_of hs [] = lit (pos 1)
product_of hs (i ∷ is) = hypothesis hs i ⊗ product_of hs is

-- `part c (i ∷ j ∷ [])` is c times the hypotheses number i and j
pub data Part : Type 0 where
  part : ℕ → List ℕ → Part

abbrev pub total : List Term → List Part → Term
total hs [] = lit (pos 0)
total hs (part c is ∷ ps) = lit (pos c) ⊗ product_of hs is ⊕ total hs ps

module _ (xs : List ℤ) where
  hypothesis_is : (hs : List Term) → All xs hs → (i : ℕ) → Nonneg (value xs (hypothesis hs i))
  hypothesis_is [] a i = record { yes = tt }
  hypothesis_is (h ∷ hs) (both p a) zero = p
  hypothesis_is (h ∷ hs) (both p a) (suc i) = hypothesis_is hs a i

  product_of_is : (hs : List Term) → All xs hs → (is : List ℕ) → Nonneg (value xs (product_of hs is))
  product_of_is hs a [] = record { yes = tt }
  product_of_is hs a (i ∷ is) =
      nonneg_mul (value xs (hypothesis hs i)) (value xs (product_of hs is)) (hypothesis_is hs a i) (product_of_is hs a is)

  total_is : (hs : List Term) → All xs hs → (ps : List Part) → Nonneg (value xs (total hs ps))
  total_is hs a [] = record { yes = tt }
  total_is hs a (part c is ∷ ps) =
      nonneg_add (pos c *ℤ value xs (product_of hs is)) (value xs (total hs ps))
      (nonneg_mul (pos c) (value xs (product_of hs is)) (nonneg_pos c) (product_of_is hs a is))
      (total_is hs a ps)

  -- 0 ≤ g, from the hypotheses hs, by the certificate ps
  pub certify : (hs : List Term) → All xs hs → (g : Term) (ps : List Part)
      → T (is_nought xs (normal xs (g ⊖ total hs ps))) → Nonneg (value xs g)
  certify hs a g ps t = subst Nonneg (sym (ring xs g (total hs ps) t)) (total_is hs a ps)
