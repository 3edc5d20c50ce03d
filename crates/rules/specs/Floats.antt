-- docs/RULES.md, "Refraction": the exact value of a float, its range and its whole tenths. Definitions only.
use Rattle.std.specs.Prelude.{ℕ, ◌*◌, Bool, true, false, cond, ◌&&◌, ℤ, pos, neg_ℤ, ◌*ℤ◌, Float}
use Rattle.std.specs.Float.{nan, inf, fin}
use Rattle.std.specs.Float.Ieee.{up, down}
use Rattle.rules.specs.Units.{between}
use Rattle.rules.specs.Rounding.{rnd}

-- a size with its sign: below nought where s is true
unfoldable pub with_sign : Bool → ℕ → ℤ
with_sign s n = cond s (neg_ℤ (pos n)) (pos n)

-- neither a NaN nor an infinity
unfoldable pub finite : Float → Bool
finite nan = false
finite (inf s) = false
finite (fin s m e) = true

-- the exact value of a finite float, m × 2^e with its sign, as a fraction
unfoldable pub numerator : Float → ℤ
numerator nan = pos 0
numerator (inf s) = pos 0
numerator (fin s m e) = with_sign s (m * up e)

unfoldable pub denominator : Float → ℕ
denominator nan = 1
denominator (inf s) = 1
denominator (fin s m e) = down e

-- 02, C-11: "finite values, .. to .., ends included": low × denominator ≤ numerator ≤ high × denominator
unfoldable pub lies : ℤ → ℤ → Float → Bool
lies low high x =
    finite x && between (low *ℤ pos (denominator x)) (high *ℤ pos (denominator x)) (numerator x)

-- "whole tenths, the nearest to the float's exact value, halves away from zero": Rnd of ten times the value
unfoldable pub tenths : Float → ℤ
tenths x = rnd (pos 10 *ℤ numerator x) (denominator x)
