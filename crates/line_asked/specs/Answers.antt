-- Number and values of what a line asks are one-to-one, as those of document 01's answers are.
use Rattle.std.specs.Prelude.{◌≡◌, refl, Option, Some, None}
use Rattle.std.proofs.Common.{sym, ap, lit<}
use Rattle.rules.specs.Answers.{moment_numbers}
use Rattle.laws.specs.Refusals.{at, moment_at, same_values, other_never}
use Rattle.line_asked.specs.declared.Asked.{Asked}
use Rattle.line_asked.specs.Asking.{asked_for, asked_answer}

pub asked_one : (a b : Option Asked) → asked_answer a ≡ asked_answer b → a ≡ b
unfolding asked_answer moment_numbers
asked_one (Some a) (Some b) e =
    ap (λ zs. Some (asked_for (moment_at zs) (record { latitude = at zs 8; longitude = at zs 9 }))) (same_values _ _ e)
asked_one (Some a) None e = other_never _ (lit< tt) e
asked_one None (Some b) e = other_never _ (lit< tt) (sym e)
asked_one None None e = refl
