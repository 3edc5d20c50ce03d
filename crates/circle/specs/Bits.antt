-- What a test of the bits of a number tells, where the number is not negative: its bits are its size.
use Rattle.std.specs.Prelude.{◌≡◌, refl, ℕ, ℤ, pos, negsuc, nat_abs}
use Rattle.std.proofs.Common.{arith}
use Rattle.laws.specs.UpTo.{UpTo}
use Rattle.words.specs.Holds.{bits}

pub size_of_bits : (z : ℤ) (b : ℕ) → UpTo z b → bits z ≡ nat_abs z
size_of_bits (pos n) b h = refl
size_of_bits (negsuc n) b h = absurd (omega (arith, h.low))
