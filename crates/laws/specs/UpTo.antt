-- Numbers from nought to a bound: `UpTo z b`, what keeps it, and a rounded product of two such.
use Rattle.std.specs.Prelude.{◌≡◌, refl, ℕ, ◌+◌, ◌*◌, ◌-◌, ◌≤◌, ◌<◌, ℤ, pos, negsuc, nat_abs, ◌+ℤ◌, ◌-ℤ◌, ◌*ℤ◌}
use Rattle.std.proofs.Common.{mul-le-mul, arith}
use Rattle.integers.specs.Difference.{pos_part, neg_part, pos_sub}
use Rattle.rules.specs.Rounding.{rnd, rnd_size}
use Rattle.laws.specs.Rounding.{rnd_pos, rnd_size_under}

pub record UpTo (z : ℤ) (b : ℕ) : Type 0 where
  pub low : neg_part z ≡ 0
  pub high : pos_part z ≤ b

pub up_to_pos : (n b : ℕ) → n ≤ b → UpTo (pos n) b
up_to_pos n b h = record { low = refl; high = h }

pub up_to_is : (z : ℤ) (b : ℕ) → UpTo z b → z ≡ pos (nat_abs z)
up_to_is (pos n) b h = refl
up_to_is (negsuc n) b h = absurd (omega (arith, h.low))

pub up_to_le : (z : ℤ) (b : ℕ) → UpTo z b → nat_abs z ≤ b
up_to_le (pos n) b h = h.high
up_to_le (negsuc n) b h = absurd (omega (arith, h.low))

pub up_to_of_le : (z : ℤ) (b c : ℕ) → b ≤ c → UpTo z b → UpTo z c
up_to_of_le z b c h k = record { low = k.low; high = omega (arith, k.high) }

-- a number less z, where z is no larger; and more z
pub up_to_less : (z : ℤ) (b c : ℕ) → UpTo z b → b ≤ c → UpTo (pos c -ℤ z) c
up_to_less (negsuc n) b c h k = absurd (omega (arith, h.low))
up_to_less (pos n) b c h k = rw (pos_sub c n (omega (arith, h.high))) (up_to_pos (c - n) c (omega arith))

pub up_to_more : (z : ℤ) (b c : ℕ) → UpTo z b → UpTo (pos c +ℤ z) (c + b)
up_to_more (negsuc n) b c h = absurd (omega (arith, h.low))
up_to_more (pos n) b c h = up_to_pos (c + n) (c + b) (omega (arith, h.high))

-- a rounded product of two such
pub up_to_product : (x y : ℤ) (a b d m : ℕ) → UpTo x a → UpTo y b → 0 < d → a * b ≤ d * m → UpTo (rnd (x *ℤ y) d) m
up_to_product (negsuc x) y a b d m h k hd l = absurd (omega (arith, h.low))
up_to_product (pos x) (negsuc y) a b d m h k hd l = absurd (omega (arith, k.low))
up_to_product (pos x) (pos y) a b d m h k hd l =
    rw (rnd_pos (x * y) d)
    (up_to_pos (rnd_size (x * y) d) m (rnd_size_under (x * y) d m hd (omega (arith, mul-le-mul h.high k.high))))
