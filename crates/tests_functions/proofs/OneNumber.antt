-- One number that may be refused, or that no rule gives, in the struct that C has for it.
use Rattle.std.specs.Prelude.{◌≡◌, refl, Bool, ℤ, pos, Option, Some, None, is_some, unwrap_or, Result, Ok, Err}
use Rattle.std.specs.Option.{IfSome}
use Rattle.std.proofs.Common.{sym}
use Rattle.std.specs.Int.{from_bool}
use Rattle.rules.specs.declared.Refusal.{Refusal}
use Rattle.rules.specs.Refusals.{given, refused}
use Rattle.rules.specs.Answers.{angle_answer, numbered_answer}
use Rattle.answers.specs.Numbered.{numbered}
use Rattle.tests_functions.specs.Angles.{tests_angle}
use Rattle.tests_functions.specs.Dates.{tests_day}
use Rattle.tests_functions.specs.Numbers.{tried}

pub angle : (a : Result ℤ Refusal)
    → record { refused = (numbered a (pos 0)).0; angle = (numbered a (pos 0)).1 } ≡ tests_angle (angle_answer a)
unfolding numbered tests_angle angle_answer given refused
angle (Ok n) = refl
angle (Err r) = refl

pub day : (a : Result ℤ Refusal)
    → record { refused = (numbered a (pos 0)).0; day = (numbered a (pos 0)).1 } ≡ tests_day (numbered_answer a)
unfolding numbered tests_day numbered_answer given refused
day (Ok n) = refl
day (Err r) = refl

pub met : (a : Option ℤ)
    → record { met = pos (from_bool (is_some a)); value = unwrap_or a (pos 0) } ≡ tried (is_some a) (unwrap_or a (pos 0))
unfolding tried
met (Some n) = refl
met None = refl

-- a test and then an answer
pub tried_is : (o : Option ℤ) (b : Bool) (z : ℤ) → is_some o ≡ b → IfSome o (λ x. x ≡ z)
    → tried (is_some o) (unwrap_or o (pos 0)) ≡ tried b z
unfolding tried
tried_is (Some x) b z e f = rw (sym e, f)
tried_is None b z e f = rw (sym e)
