-- What a test in code tells: `if !f(..)` is taken where f gave false, and left where it gave true.
use Rattle.std.specs.Prelude.{◌≡◌, refl, Bool, true, false, not}
use Rattle.std.proofs.Common.{sym}

pub not_taken : (b : Bool) → not b ≡ true → b ≡ false
not_taken true e = sym e
not_taken false e = refl

pub not_left : (b : Bool) → not b ≡ false → b ≡ true
not_left true e = refl
not_left false e = sym e
