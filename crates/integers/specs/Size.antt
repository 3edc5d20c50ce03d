-- The size of an integer, `nat_abs`: sums, differences, products; a bound from two orders.
use Rattle.std.specs.Prelude.{◌≡◌, refl, true, false, ℕ, zero, suc, ◌+◌, ◌*◌, ◌≤◌, min, ℤ, pos, negsuc, neg_ℤ, nat_abs, ◌+ℤ◌, ◌-ℤ◌, ◌*ℤ◌}
use Rattle.std.proofs.Common.{mul-le-mul, arith}
use Rattle.std.specs.Int.Signed.{mag, lt_z}
use Rattle.integers.specs.Difference.{pos_part, neg_part, add_is, sub_is, eq_of_parts, lt_z_true, lt_z_false}

-- ---- what `omega` is given of one integer

pub abs_is : (x : ℤ) → nat_abs x ≡ pos_part x + neg_part x
abs_is (pos n) = omega arith
abs_is (negsuc n) = omega arith

pub parts_apart : (x : ℤ) → min (pos_part x) (neg_part x) ≡ 0
parts_apart (pos n) = omega arith
parts_apart (negsuc n) = omega arith

-- ---- sizes

pub abs_le : (x : ℤ) (b : ℕ) → pos_part x ≤ neg_part x + b → neg_part x ≤ pos_part x + b → nat_abs x ≤ b
abs_le (pos n) b h k = omega arith
abs_le (negsuc n) b h k = omega arith

pub abs_neg : (x : ℤ) → nat_abs (neg_ℤ x) ≡ nat_abs x
abs_neg (pos zero) = refl
abs_neg (pos (suc n)) = refl
abs_neg (negsuc n) = refl

pub abs_mul : (x y : ℤ) → nat_abs (x *ℤ y) ≡ nat_abs x * nat_abs y
abs_mul (pos a) (pos b) = refl
abs_mul (pos a) (negsuc b) = abs_neg (pos (a * suc b))
abs_mul (negsuc a) (pos b) = abs_neg (pos (suc a * b))
abs_mul (negsuc a) (negsuc b) = refl

pub abs_add : (x y : ℤ) → nat_abs (x +ℤ y) ≤ nat_abs x + nat_abs y
abs_add x y = abs_le (x +ℤ y) (nat_abs x + nat_abs y)
    (omega (arith, add_is x y, abs_is x, abs_is y)) (omega (arith, add_is x y, abs_is x, abs_is y))

pub abs_sub : (x y : ℤ) → nat_abs (x -ℤ y) ≤ nat_abs x + nat_abs y
abs_sub x y = omega (arith, abs_add x (neg_ℤ y), abs_neg y)

pub abs_mul_le : (x y : ℤ) (a b : ℕ) → nat_abs x ≤ a → nat_abs y ≤ b → nat_abs (x *ℤ y) ≤ a * b
abs_mul_le x y a b h k = rw (abs_mul x y) (mul-le-mul h k)

-- a square is the square of the size
pub square_abs : (x : ℤ) → x *ℤ x ≡ pos (nat_abs x * nat_abs x)
square_abs (pos n) = refl
square_abs (negsuc n) = refl

-- ---- the size, by a test of the sign

pub abs_of_negative : (x : ℤ) → lt_z x (pos 0) ≡ true → pos 0 -ℤ x ≡ pos (nat_abs x)
abs_of_negative x e = eq_of_parts (pos 0 -ℤ x) (pos (nat_abs x))
    (omega (arith, sub_is (pos 0) x, abs_is x, parts_apart x, lt_z_true x (pos 0) e))

pub abs_of_nonnegative : (x : ℤ) → lt_z x (pos 0) ≡ false → x ≡ pos (nat_abs x)
abs_of_nonnegative x e = eq_of_parts x (pos (nat_abs x))
    (omega (arith, abs_is x, parts_apart x, lt_z_false x (pos 0) e))

-- ---- `mag`, by which a signed range is one bound

pub mag_le : (x : ℤ) → mag x ≤ nat_abs x
mag_le (pos n) = omega arith
mag_le (negsuc n) = omega arith

pub mag_neg_le : (m n : ℕ) → m ≤ suc n → mag (neg_ℤ (pos m)) ≤ n
mag_neg_le zero n h = omega arith
mag_neg_le (suc m) n h = omega arith

-- how far two numbers are apart bounds either by the other
pub abs_moved : (p q : ℤ) → nat_abs p ≤ nat_abs q + nat_abs (p -ℤ q)
abs_moved p q = omega (arith, sub_is p q, abs_is p, abs_is q, abs_is (p -ℤ q), parts_apart p, parts_apart q)

pub abs_moved_back : (p q : ℤ) → nat_abs q ≤ nat_abs p + nat_abs (p -ℤ q)
abs_moved_back p q = omega (arith, sub_is p q, abs_is p, abs_is q, abs_is (p -ℤ q), parts_apart p, parts_apart q)
