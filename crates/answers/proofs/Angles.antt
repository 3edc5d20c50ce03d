-- What std says of an angle that may be none is what the rules say of it.
use Rattle.std.specs.Prelude.{◌≡◌, refl, Bool, true, false, cond, ℤ, pos, Option, Some, None, is_some, unwrap_or}
use Rattle.std.specs.Int.{from_bool}
use Rattle.rules.specs.Answers.{has_angle, or_nought, flag}

pub unwrapped : (a : Option ℤ) → unwrap_or a (pos 0) ≡ or_nought a
unfolding or_nought
unwrapped (Some a) = refl
unwrapped None = refl

pub flagged : (a : Option ℤ) → pos (from_bool (is_some a)) ≡ flag a
unfolding flag has_angle
flagged (Some a) = refl
flagged None = refl

pub shown : (b : Bool) → pos (from_bool b) ≡ cond b (pos 1) (pos 0)
shown true = refl
shown false = refl

pub flag_shown : (a : Option ℤ) → pos (from_bool (has_angle a)) ≡ flag a
unfolding flag
flag_shown a = shown (has_angle a)
