-- What fits a signed word: from a bound on the size, and for the quotient and remainder of any two words.
use Rattle.std.specs.Prelude.{◌≡◌, ◌≤◌, ◌<◌, ◌^◌, ℤ, pos, negsuc, nat_abs, ◌<ℤ◌, ◌≤ℤ◌}
use Rattle.std.proofs.Common.{arith, ltb→lt, SFits, of_z, to_z, to_z-of_z}
use Rattle.std.specs.Int.Signed.{mag, quot_z, rem_z, mag_rem}
use Rattle.std.specs.Int.{w32, w64}
use Rattle.std.proofs.Math.Facts.{sfits_widen}
use mir.ValLaws.{sfits_le}
use borrow.Author.Rules.{sfits_of}
use Rattle.integers.specs.Size.{mag_le}
use Rattle.integers.specs.Quotient.{mag_quot}

pub fits64 : (x : ℤ) → nat_abs x < 2 ^ 63 → SFits w64 x
fits64 x h = record { sfits = omega (arith, mag_le x) }

pub fits32 : (x : ℤ) → nat_abs x < 2 ^ 31 → SFits w32 x
fits32 x h = record { sfits = omega (arith, mag_le x) }

-- and back: the lowest number of a width is one larger in size than its highest
pub size64 : (x : ℤ) → SFits w64 x → nat_abs x ≤ 2 ^ 63
size64 (pos n) h = let k = h.sfits in omega arith
size64 (negsuc n) h = h.sfits

pub size32 : (x : ℤ) → SFits w32 x → nat_abs x ≤ 2 ^ 31
size32 (pos n) h = let k = h.sfits in omega arith
size32 (negsuc n) h = h.sfits

-- a number that is not negative is below the sign bit
pub size64_lt : (x : ℤ) → SFits w64 x → pos 0 ≤ℤ x → nat_abs x < 2 ^ 63
size64_lt (pos n) h k = h.sfits
size64_lt (negsuc n) h k = absurd k.le

-- a number that fits is read back as it was stored; a call's result is known to fit by its `ok`
pub held64 : (z : ℤ) → mag z < 2 ^ 63 → to_z w64 (of_z w64 z) ≡ z
held64 z l = to_z-of_z {w = w64} (sfits_of {w = w64} {z = z} l)

pub held32 : (z : ℤ) → mag z < 2 ^ 31 → to_z w32 (of_z w32 z) ≡ z
held32 z l = to_z-of_z {w = w32} (sfits_of {w = w32} {z = z} l)

pub widened_fits : (x : ℤ) → SFits w32 x → SFits w64 x
widened_fits x h = sfits_widen tt h

-- ---- quotient and remainder by a divisor above nought

pub quot_fits : (x d : ℤ) → SFits w64 x → pos 0 <ℤ d → SFits w64 (quot_z x d)
quot_fits x (pos n) f h = sfits_le (mag_quot x n) f
quot_fits x (negsuc n) f h = absurd h.lt

pub rem_fits : (x d : ℤ) → SFits w64 x → SFits w64 (rem_z x d)
rem_fits x d f = sfits_le (mag_rem x d) f

pub bits_pos : (d : ℤ) → pos 0 <ℤ d → 0 < of_z w64 d
bits_pos (pos n) h = ltb→lt 0 n h.lt
bits_pos (negsuc n) h = absurd h.lt

-- what the machine's quotient of two words asks
pub quot_ok : (x d : ℤ) → SFits w64 x → SFits w64 d → pos 0 <ℤ d
    → (0 < of_z w64 d) × SFits w64 (quot_z (to_z w64 (of_z w64 x)) (to_z w64 (of_z w64 d)))
quot_ok x d fx fd h = (bits_pos d h, simp to_z-of_z (quot_fits x d fx h))
