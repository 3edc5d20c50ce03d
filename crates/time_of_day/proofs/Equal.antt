-- A signed number is the same as a literal exactly where its bits are.
use mathlib.Core.Path.{◌≡◌, refl, ap}
use mathlib.Core.Bool.{Bool, true, false}
use Prim.Native.Nat.{ℕ, ◌<◌, ◌^◌}
use native.Mathlib.Omega.{arith}
use lib.IntN.{ℤ, pos, negsuc}
use mir.Syntax.{w64}
use mir.Val.{of_z, SFits}
use Rattle.rules.specs.Units.{same}
use Rattle.laws.specs.Ranges.{same_iff}

of_bits : (k : ℕ) (z : ℤ) → SFits w64 z → k < 2 ^ 63 → of_z w64 z ≡ k → z ≡ pos k
of_bits k (pos n) f h e = ap pos e
of_bits k (negsuc n) f h e = absurd (omega (arith, f.sfits))

pub equal : (k : ℕ) (z : ℤ) → SFits w64 z → k < 2 ^ 63 → of_z w64 z ≡ k → same z (pos k) ≡ true
equal k z f h e = (same_iff z (pos k)).1 (of_bits k z f h e)

pub not_equal : (k : ℕ) (z : ℤ) → (of_z w64 z ≡ k → ⊥) → same z (pos k) ≡ false
not_equal k z f = go (same z (pos k)) refl
  where
    go : (b : Bool) → same z (pos k) ≡ b → same z (pos k) ≡ false
    go true e = absurd (f (ap (of_z w64) ((same_iff z (pos k)).0 e)))
    go false e = e
