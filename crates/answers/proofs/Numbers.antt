-- One number that may be refused, in the struct that C has for it.
use Rattle.std.specs.Prelude.{◌≡◌, refl, ℕ, ℤ, pos, Result, Ok, Err}
use Rattle.rules.specs.declared.Refusal.{Refusal}
use Rattle.rules.specs.Refusals.{given, refused}
use Rattle.rules.specs.Answers.{listed_answer, angle_answer}
use Rattle.answers.specs.Answers.{counted_out, written_out, altitude_out}
use Rattle.answers.specs.Numbered.{numbered}

pub counted : (a : Result ℕ Refusal)
    → record { refused = (numbered a 0).0; count = (numbered a 0).1 } ≡ counted_out (listed_answer a)
unfolding numbered counted_out listed_answer given refused
counted (Ok n) = refl
counted (Err r) = refl

pub written : (a : Result ℕ Refusal)
    → record { refused = (numbered a 0).0; length = (numbered a 0).1 } ≡ written_out (listed_answer a)
unfolding numbered written_out listed_answer given refused
written (Ok n) = refl
written (Err r) = refl

pub lifted : (a : Result ℤ Refusal)
    → record { refused = (numbered a (pos 0)).0; altitude = (numbered a (pos 0)).1 } ≡ altitude_out (angle_answer a)
unfolding numbered altitude_out angle_answer given refused
lifted (Ok n) = refl
lifted (Err r) = refl
