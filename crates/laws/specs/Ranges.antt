-- Tests and refusals as propositions: what `between` and `same` decide, and what a passed test tells of a number.
use Rattle.std.specs.Prelude.{◌≡◌, refl, Bool, true, false, not, ◌&&◌, ◌↔◌, ℕ, ◌+◌, ◌≤◌, ◌<◌, T, ℤ, pos, negsuc, nat_abs, ◌≤ℤ◌, ◌<ℤ◌}
use Rattle.std.proofs.Common.{sym, arith, le→leb, lt→ltb, le-ltb}
use Rattle.std.specs.Int.Signed.{lt_z}
use Rattle.integers.specs.Difference.{pos_part, neg_part, le_z_true}
use Rattle.rules.specs.Units.{same, between}
use Rattle.laws.specs.Units.{between_of, between_parts, same_eq, same_self}

-- ---- truth values

pub yes : (b : Bool) → T b → b ≡ true
yes true t = refl
yes false t = absurd t

pub holds : (b : Bool) → b ≡ true → T b
holds b e = rw e tt

pub true_not_false : {X : Type 0} → true ≡ false → X
true_not_false e = let z : ◌≡◌ {A = ℕ} 0 1 = cc in absurd (omega arith)

pub both_true : (a b : Bool) → a && b ≡ true → (a ≡ true) × (b ≡ true)
both_true true true e = (refl, refl)
both_true true false e = true_not_false (sym e)
both_true false b e = true_not_false (sym e)

-- one test passes exactly when A, another exactly when B: both exactly when both
pub both_iff : {A B : Type 0} (a b : Bool) → (a ≡ true ↔ A) → (b ≡ true ↔ B) → (a && b ≡ true ↔ A × B)
both_iff a b f g =
    (λ e. let u = both_true a b e in (f.0 u.0, g.0 u.1), λ p. rw (f.1 p.0, g.1 p.1))

-- a refusal is a failed test
pub refused_iff : {A : Type 0} (b : Bool) → (b ≡ true ↔ A) → (not b ≡ true ↔ ¬ A)
refused_iff true f = (λ e. true_not_false (sym e), λ n. absurd (n (f.0 refl)))
refused_iff false f = (λ e a. true_not_false (sym (f.1 a)), λ n. refl)

pub accepted_iff : {A : Type 0} (b : Bool) → (b ≡ true ↔ A) → (not b ≡ false ↔ A)
accepted_iff true f = (λ e. f.0 refl, λ a. refl)
accepted_iff false f = (λ e. true_not_false e, λ a. true_not_false (sym (f.1 a)))

-- ---- between

-- low ≤ z ≤ high
pub record Between (low high z : ℤ) : Type 0 where
  pub above : low ≤ℤ z
  pub below : z ≤ℤ high

-- an order of two signed numbers from one of their parts
pub le_of_sizes : (x y : ℤ) → pos_part x + neg_part y ≤ pos_part y + neg_part x → x ≤ℤ y
le_of_sizes (pos a) (pos b) h = record { le = le→leb a b (omega arith) }
le_of_sizes (pos a) (negsuc b) h = absurd (omega arith)
le_of_sizes (negsuc a) (pos b) h = record { le = tt }
le_of_sizes (negsuc a) (negsuc b) h = record { le = le→leb b a (omega arith) }

pub lt_of_sizes : (x y : ℤ) → pos_part x + neg_part y < pos_part y + neg_part x → x <ℤ y
lt_of_sizes (pos a) (pos b) h = record { lt = lt→ltb a b (omega arith) }
lt_of_sizes (pos a) (negsuc b) h = absurd (omega arith)
lt_of_sizes (negsuc a) (pos b) h = record { lt = tt }
lt_of_sizes (negsuc a) (negsuc b) h = record { lt = lt→ltb b a (omega arith) }

pub not_lt : (x y : ℤ) → pos_part x + neg_part y ≤ pos_part y + neg_part x → lt_z y x ≡ false
not_lt (pos a) (pos b) h = le-ltb b a (omega arith)
not_lt (pos a) (negsuc b) h = absurd (omega arith)
not_lt (negsuc a) (pos b) h = refl
not_lt (negsuc a) (negsuc b) h = le-ltb a b (omega arith)

pub between_iff : (low high z : ℤ) → between low high z ≡ true ↔ Between low high z
between_iff low high z = (
  λ e.
      let u = between_parts low high z e in
      record { above = le_of_sizes low z u.0; below = le_of_sizes z high u.1 },
  λ p.
      let a = le_z_true low z (yes _ p.above.le) in
      let b = le_z_true z high (yes _ p.below.le) in
      between_of low high z (not_lt low z a) (not_lt z high b),
)

-- ---- a range of naturals

pub record InRange (low high : ℕ) (z : ℤ) : Type 0 where
  pub is : z ≡ pos (nat_abs z)
  pub at_least : low ≤ nat_abs z
  pub at_most : nat_abs z ≤ high

pub in_range_lem : (low high : ℕ) (z : ℤ) → between (pos low) (pos high) z ≡ true → InRange low high z
in_range_lem low high z e = go z ((between_iff (pos low) (pos high) z).0 e)
  where
    go : (z : ℤ) → Between (pos low) (pos high) z → InRange low high z
    go (pos n) p =
        let a = le_z_true (pos low) (pos n) (yes _ p.above.le) in
        let b = le_z_true (pos n) (pos high) (yes _ p.below.le) in
        record { is = refl; at_least = omega arith; at_most = omega arith }
    go (negsuc n) p = absurd p.above.le

pub of_range : (low high n : ℕ) → low ≤ n → n ≤ high → between (pos low) (pos high) (pos n) ≡ true
unfolding between
of_range low high n h k = rw (le-ltb n low h, le-ltb high n k)

-- ---- the same

pub same_iff : (x y : ℤ) → same x y ≡ true ↔ x ≡ y
same_iff x y = (λ e. same_eq x y e, λ e. rw e (same_self y))
