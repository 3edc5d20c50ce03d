-- An integer as the difference of two naturals, so that `omega` can read it: one of its two parts is nought.
use Rattle.std.specs.Prelude.{◌≡◌, refl, ℕ, zero, suc, ◌+◌, ◌*◌, ◌-◌, ◌≤◌, ◌<◌, Bool, true, false, not, cond, T, ltb, ℤ, pos, negsuc, neg_ℤ, ◌+ℤ◌, ◌-ℤ◌, ◌*ℤ◌}
use Rattle.std.proofs.Common.{sym, ap, subst, arith, ltb→lt, nltb→le, ltb-true, ltb-false, leb-true, leb-false}
use Rattle.std.specs.Int.Signed.{lt_z, le_z}
use Rattle.std.proofs.Math.IntN.{sub_ℕ}

-- z where it is not negative, else 0
abbrev pub pos_part : ℤ → ℕ
pos_part (pos n) = n
pos_part (negsuc n) = 0

-- −z where z is negative, else 0
abbrev pub neg_part : ℤ → ℕ
neg_part (pos n) = 0
neg_part (negsuc n) = suc n

-- z is p − n
abbrev pub IsDifference : ℤ → ℕ → ℕ → Type 0
IsDifference z p n = pos_part z + n ≡ p + neg_part z

-- ---- what `omega` is given of each operation

pub sub_ℕ_is : (a b : ℕ) → IsDifference (sub_ℕ a b) a b
sub_ℕ_is a b = go (ltb a b) (ltb→lt a b) (nltb→le a b)
  where
    go : (t : Bool) → (T t → a < b) → (T (not t) → b ≤ a)
        → IsDifference (cond t (negsuc (b - suc a)) (pos (a - b))) a b
    go true f g = let h : a < b = f tt in omega arith
    go false f g = let h : b ≤ a = g tt in omega arith

pub pos_part_neg : (x : ℤ) → pos_part (neg_ℤ x) ≡ neg_part x
pos_part_neg (pos zero) = refl
pos_part_neg (pos (suc n)) = refl
pos_part_neg (negsuc n) = refl

pub neg_part_neg : (x : ℤ) → neg_part (neg_ℤ x) ≡ pos_part x
neg_part_neg (pos zero) = refl
neg_part_neg (pos (suc n)) = refl
neg_part_neg (negsuc n) = refl

pub add_is : (x y : ℤ) → IsDifference (x +ℤ y) (pos_part x + pos_part y) (neg_part x + neg_part y)
add_is (pos a) (pos b) = omega arith
add_is (pos a) (negsuc b) = omega (arith, sub_ℕ_is a (suc b))
add_is (negsuc a) (pos b) = omega (arith, sub_ℕ_is b (suc a))
add_is (negsuc a) (negsuc b) = omega arith

pub sub_is : (x y : ℤ) → IsDifference (x -ℤ y) (pos_part x + neg_part y) (neg_part x + pos_part y)
sub_is x y = omega (arith, add_is x (neg_ℤ y), pos_part_neg y, neg_part_neg y)

pub mul_is : (x y : ℤ)
    → IsDifference (x *ℤ y)
    (pos_part x * pos_part y + neg_part x * neg_part y) (pos_part x * neg_part y + neg_part x * pos_part y)
mul_is (pos a) (pos b) = omega arith
mul_is (pos a) (negsuc b) = omega (arith, pos_part_neg (pos (a * suc b)), neg_part_neg (pos (a * suc b)))
mul_is (negsuc a) (pos b) = omega (arith, pos_part_neg (pos (suc a * b)), neg_part_neg (pos (suc a * b)))
mul_is (negsuc a) (negsuc b) = omega arith

-- ---- an equation of integers is one of their parts

pub eq_of_parts : (x y : ℤ) → pos_part x + neg_part y ≡ pos_part y + neg_part x → x ≡ y
eq_of_parts (pos a) (pos b) h = ap pos (omega arith)
eq_of_parts (pos a) (negsuc b) h = absurd (omega arith)
eq_of_parts (negsuc a) (pos b) h = absurd (omega arith)
eq_of_parts (negsuc a) (negsuc b) h = ap negsuc (omega arith)

pub parts_of_eq : (x y : ℤ) → x ≡ y → pos_part x + neg_part y ≡ pos_part y + neg_part x
parts_of_eq x y e = rw e

pub pos_sub : (a b : ℕ) → b ≤ a → pos a -ℤ pos b ≡ pos (a - b)
pos_sub a b h = eq_of_parts (pos a -ℤ pos b) (pos (a - b)) (omega (arith, sub_is (pos a) (pos b)))

-- ---- identities of two or three variables: write each as a `less`, `simp lesses`, and compare by `omega`

infix 55 ◌less◌
pub ◌less◌ : ℕ → ℕ → ℤ
a less b = sub_ℕ a b

less_is : (a b : ℕ) → IsDifference (a less b) a b
unfolding ◌less◌
less_is a b = sub_ℕ_is a b

pub as_less : (x : ℤ) → x ≡ pos_part x less neg_part x
as_less x = eq_of_parts x (pos_part x less neg_part x) (omega (arith, less_is (pos_part x) (neg_part x)))

pub less_eq : (a b c d : ℕ) → a + d ≡ c + b → a less b ≡ c less d
less_eq a b c d h = eq_of_parts (a less b) (c less d) (omega (arith, less_is a b, less_is c d))

pub less_add : (a b c d : ℕ) → (a less b) +ℤ (c less d) ≡ (a + c) less (b + d)
less_add a b c d = eq_of_parts ((a less b) +ℤ (c less d)) ((a + c) less (b + d))
    (omega (arith, less_is a b, less_is c d, less_is (a + c) (b + d), add_is (a less b) (c less d)))

pub less_neg : (a b : ℕ) → neg_ℤ (a less b) ≡ b less a
less_neg a b = eq_of_parts (neg_ℤ (a less b)) (b less a)
    (omega (arith, less_is a b, less_is b a, pos_part_neg (a less b), neg_part_neg (a less b)))

pub less_pos : (a : ℕ) → pos a ≡ a less 0
less_pos a = eq_of_parts (pos a) (a less 0) (omega (arith, less_is a 0))

pub less_negsuc : (a : ℕ) → negsuc a ≡ 0 less suc a
less_negsuc a = eq_of_parts (negsuc a) (0 less suc a) (omega (arith, less_is 0 (suc a)))

cross : (u v w x a b c d : ℕ) → u + b ≡ a + v → w + d ≡ c + x
    → u * w + v * x + (a * d + b * c) ≡ u * x + v * w + (a * c + b * d)
cross u v w x a b c d h k =
    omega (arith, ap (λ z. z * w) h, ap (λ z. z * x) h, ap (λ z. a * z) k, ap (λ z. b * z) k)

pub less_mul : (a b c d : ℕ) → (a less b) *ℤ (c less d) ≡ (a * c + b * d) less (a * d + b * c)
less_mul a b c d = eq_of_parts ((a less b) *ℤ (c less d)) ((a * c + b * d) less (a * d + b * c))
    (omega (
      arith,
      less_is (a * c + b * d) (a * d + b * c),
      mul_is (a less b) (c less d),
      cross (pos_part (a less b)) (neg_part (a less b)) (pos_part (c less d)) (neg_part (c less d)) a b c d
          (less_is a b) (less_is c d),
    ))

pub ruleset lesses = (less_add, less_neg, less_mul, less_pos, less_negsuc)

pub mul_assoc : (x y z : ℤ) → (x *ℤ y) *ℤ z ≡ x *ℤ (y *ℤ z)
mul_assoc x y z = rw (as_less x, as_less y, as_less z) (simp lesses (less_eq _ _ _ _ (omega arith)))

pub mul_add : (x y z : ℤ) → x *ℤ (y +ℤ z) ≡ x *ℤ y +ℤ x *ℤ z
mul_add x y z = rw (as_less x, as_less y, as_less z) (simp lesses (less_eq _ _ _ _ (omega arith)))

-- ---- what a test of two signed numbers tells: list these by name, as rules for `omega`

no_way : {A : Type 0} → true ≡ false → A
no_way e = absurd (subst T e tt)

pub lt_z_true : (x y : ℤ) → lt_z x y ≡ true → pos_part x + neg_part y < pos_part y + neg_part x
lt_z_true (pos a) (pos b) e = let h = ltb-true a b e in omega arith
lt_z_true (pos a) (negsuc b) e = no_way (sym e)
lt_z_true (negsuc a) (pos b) e = omega arith
lt_z_true (negsuc a) (negsuc b) e = let h = ltb-true b a e in omega arith

pub lt_z_false : (x y : ℤ) → lt_z x y ≡ false → pos_part y + neg_part x ≤ pos_part x + neg_part y
lt_z_false (pos a) (pos b) e = let h = ltb-false a b e in omega arith
lt_z_false (pos a) (negsuc b) e = omega arith
lt_z_false (negsuc a) (pos b) e = no_way e
lt_z_false (negsuc a) (negsuc b) e = let h = ltb-false b a e in omega arith

pub le_z_true : (x y : ℤ) → le_z x y ≡ true → pos_part x + neg_part y ≤ pos_part y + neg_part x
le_z_true (pos a) (pos b) e = let h = leb-true a b e in omega arith
le_z_true (pos a) (negsuc b) e = no_way (sym e)
le_z_true (negsuc a) (pos b) e = omega arith
le_z_true (negsuc a) (negsuc b) e = let h = leb-true b a e in omega arith

pub le_z_false : (x y : ℤ) → le_z x y ≡ false → pos_part y + neg_part x < pos_part x + neg_part y
le_z_false (pos a) (pos b) e = let h = leb-false a b e in omega arith
le_z_false (pos a) (negsuc b) e = omega arith
le_z_false (negsuc a) (pos b) e = no_way e
le_z_false (negsuc a) (negsuc b) e = let h = leb-false b a e in omega arith
