-- Demand 1 of UTC of a TT: `utc::utc_of_tt` 20, and what C gets of it; of the rule, and of the functions themselves by
-- their contracts. 13 is none of its answers.
use Rattle.std.specs.Prelude.{◌≡◌, ◌↔◌, pos, Ok, Err}
use Rattle.std.proofs.Math.Path.{refl}
use Rattle.std.proofs.Common.{sym, ap, ◌∙◌}
use Rattle.std.proofs.Math.IntN.{nat_abs}
use seplogic.Ra.Ura.{Ura}
use base.Logic.{SProp, id⊢}
use prog.Memory.{Memory}
use prog.Routine.{Routine}
use types.Logic.{Logic}
use contract.Monad.{Fun, fact_mono}
use Rattle.rules.specs.declared.Tt.{Tt}
use Rattle.rules.specs.declared.Utc.{Utc}
use Rattle.rules.specs.declared.Refusal.{Refusal}
use Rattle.rules.specs.Checks.{first}
use Rattle.rules.specs.Refusals.{number, given, refused}
use Rattle.rules.specs.Answers.{utc_numbers, clocked_answer}
use Rattle.rules.specs.Utc.{utc_at, utc_of_tt}
use Rattle.laws.specs.Checks.{FirstGiven, NoneGiven}
use Rattle.answers.specs.declared.clocks.TurbelicusClocked.{TurbelicusClocked}
use Rattle.answers.specs.Given.{tt_of}
use Rattle.answers.specs.Answers.{clocked_out}
use Rattle.promises.specs.OfContracts.{Tells, so_told}
use Rattle.promises.specs.Demand1.Checks.{stretch_checks}
use Rattle.promises.specs.Demand1.InOrder.{Refuses, first_map, refused_exactly, answered_exactly}
use Rattle.promises.specs.Demand1.Thirteen.{Never13, never_13, number_not_13}
use Rattle.utc.specs.contracts.utc_of_tt as utc_of_tt_lem
use Rattle.module.specs.contracts.clocks.turbelicus_utc as turbelicus_utc

-- ---- the rule

pub utc_checked : (t : Tt) → utc_of_tt t ≡ first (stretch_checks t) Err (Ok (utc_at t.0))
unfolding utc_of_tt first
utc_checked t = refl

pub utc_refused_lem : (t : Tt) (r : Refusal) → (utc_of_tt t ≡ Err r) ↔ FirstGiven (stretch_checks t) r
unfolding clocked_answer given refused
utc_refused_lem t r = rw (utc_checked t)
    (refused_exactly (λ a. pos (clocked_answer a).number) Err _ (λ _. refl) refl (stretch_checks t) r)

pub utc_answer : (t : Tt)
    → clocked_answer (utc_of_tt t) ≡ first (stretch_checks t) (λ r. refused r 7) (given (utc_numbers (utc_at t.0)))
unfolding clocked_answer
utc_answer t = ap clocked_answer (utc_checked t) ∙ first_map clocked_answer (stretch_checks t) Err _

-- ---- turbelicus_utc

abbrev pub utc_refused : Refusal → TurbelicusClocked
utc_refused r = record {
  refused = pos (number r);
  year = pos 0;
  month = pos 0;
  day = pos 0;
  hour = pos 0;
  minute = pos 0;
  second = pos 0;
  ms = pos 0;
}

abbrev pub utc_given : Utc → TurbelicusClocked
utc_given u = record {
  refused = pos 0;
  year = u.date.year;
  month = u.date.month;
  day = u.date.day;
  hour = u.time.hour;
  minute = u.time.minute;
  second = u.time.second;
  ms = u.time.ms;
}

turbelicus_utc_checked : (t : Tt)
    → clocked_out (clocked_answer (utc_of_tt t)) ≡ first (stretch_checks t) utc_refused (utc_given (utc_at t.0))
unfolding clocked_out given refused
turbelicus_utc_checked t = ap clocked_out (utc_answer t) ∙ first_map clocked_out (stretch_checks t) (λ r. refused r 7) _

pub turbelicus_utc_refused : (t : Tt) (r : Refusal)
    → (clocked_out (clocked_answer (utc_of_tt t)) ≡ utc_refused r) ↔ FirstGiven (stretch_checks t) r
turbelicus_utc_refused t r = rw (turbelicus_utc_checked t)
    (refused_exactly (λ a. a.refused) utc_refused _ (λ _. refl) refl (stretch_checks t) r)

pub turbelicus_utc_given : (t : Tt)
    → (clocked_out (clocked_answer (utc_of_tt t)) ≡ utc_given (utc_at t.0)) ↔ NoneGiven (stretch_checks t)
turbelicus_utc_given t = rw (turbelicus_utc_checked t)
    (answered_exactly (λ a. a.refused) utc_refused _ (λ _. refl) refl (stretch_checks t))

-- ---- of the functions themselves

module _ {M : Type 1} {𝓤 : Ura M} (𝓛 : Logic 𝓤) (mem : Memory → SProp 𝓤) (run : Routine → Fun 𝓤) where
  pub utc_of_tt_tells : Tells 𝓤 utc_of_tt_lem.ended (utc_of_tt_lem.clauses 𝓛 mem run)
      (λ κs passed a x. Refuses a Err (stretch_checks passed.0))
  utc_of_tt_tells κs passed g a x = so_told 𝓤 (id⊢ 𝓤 _)
      (λ e r. rw e (utc_refused_lem passed.0 r))

  pub turbelicus_utc_tells : Tells 𝓤 turbelicus_utc.ended (turbelicus_utc.clauses 𝓛 mem run)
      (λ κs passed a x. Refuses a utc_refused (stretch_checks (tt_of passed.0)))
  turbelicus_utc_tells κs passed g a x =
      so_told 𝓤 (id⊢ 𝓤 _)
      (λ e r. rw e (turbelicus_utc_refused (tt_of passed.0) r))

  pub utc_of_tt_not_13 : Tells 𝓤 utc_of_tt_lem.ended (utc_of_tt_lem.clauses 𝓛 mem run)
      (λ κs passed a x. Never13 a Err)
  unfolding number
  utc_of_tt_not_13 κs passed g a x = so_told 𝓤 (utc_of_tt_tells κs passed g a x)
      (never_13 a Err (stretch_checks passed.0) refl)

  pub turbelicus_utc_not_13 : Tells 𝓤 turbelicus_utc.ended (turbelicus_utc.clauses 𝓛 mem run)
      (λ κs passed a x. a.refused ≡ pos 13 → ⊥)
  unfolding number clocked_out
  turbelicus_utc_not_13 κs passed g a x = fact_mono 𝓤 _ _ (λ e h.
      number_not_13 _ _ 7 _ (utc_answer _) refl (ap nat_abs (sym (ap (λ s. s.refused) e) ∙ h)))
