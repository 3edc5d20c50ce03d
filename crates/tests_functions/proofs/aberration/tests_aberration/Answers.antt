-- `tests_functions::aberration::tests_aberration` meets its contract.
use Rattle.std.proofs.Common.{rules, ◌≡◌, ◌∙◌, ap, sym, Bool, true, false, cond, Result, Ok, Err}
use mir.Facts.{to_z-of_z}
use Rattle.rules.specs.declared.Tt.{Tt}
use Rattle.rules.specs.declared.Refusal.{Refusal}
use Rattle.rules.specs.Refusals.{Answer, refused}
use Rattle.tests_functions.specs.Aberration.{aberration_at, aberration_given, tests_aberration}
use Rattle.tests_functions.specs.InstantsGiven.{in_tt}
use Rattle.tests_functions.proofs.aberration.tests_aberration.Goals as goal

-- an instant that is given, and one that is refused
given : (b : Bool) (t u : Tt) (x : Answer) → ◌≡◌ {A = Result Tt Refusal} (Ok t) (cond b (Err Refusal.Instant) (Ok u))
    → aberration_given t ≡ cond b x (aberration_given u)
given true t u x e = cc
given false t u x e = cc

not_given : (b : Bool) (r : Refusal) (u : Tt) (x : Answer) → ◌≡◌ {A = Result Tt Refusal} (Err r) (cond b (Err Refusal.Instant) (Ok u))
    → refused r 5 ≡ cond b (refused Refusal.Instant 5) x
not_given true r u x e = cc
not_given false r u x e = cc

pub returns-in-Ok : goal.returns-in-Ok
unfolding aberration_at
returns-in-Ok c =
    c.given_at.ensures ∙ ap tests_aberration (given _ _ _ _ (rw (to_z-of_z c.ranges.tt) at c.in-Ok.ensures))

pub returns-in-Err : goal.returns-in-Err
unfolding aberration_at tests_aberration refused
returns-in-Err c =
    rw (sym (not_given _ _ _ (aberration_given (in_tt c.args.tt)) (rw (to_z-of_z c.ranges.tt) at c.in-Err.ensures))) (search rules)
