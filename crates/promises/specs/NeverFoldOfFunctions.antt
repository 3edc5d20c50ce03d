-- Change C-22 of the functions themselves, by what their contracts tell of two calls: `instants::instants` of two UTC
-- times, and `utc::utc_of_tt` before or after it. `turbelicus_utc` gives the same numbers to C.
use Rattle.std.specs.Prelude.{◌≡◌, ℤ, ◌<ℤ◌, Ok}
use Rattle.std.proofs.Common.{sym, ◌∙◌}
use seplogic.Ra.Ura.{Ura}
use base.Logic.{SProp, ent, id⊢}
use prog.Memory.{Memory}
use prog.Routine.{Routine}
use types.Logic.{Logic}
use contract.Monad.{Fun, conj, fact}
use Rattle.rules.specs.declared.Ut.{Ut}
use Rattle.rules.specs.declared.Tt.{Tt}
use Rattle.rules.specs.declared.Utc.{Utc}
use Rattle.rules.specs.declared.Instants.{Instants}
use Rattle.rules.specs.Units.{+◌, −◌}
use Rattle.rules.specs.Answers.{utc_numbers}
use Rattle.rules.specs.Dates.{ut_of}
use Rattle.rules.specs.Utc.{moment_with, utc_of}
use Rattle.laws.specs.Ranges.{Between}
use Rattle.laws.specs.ClockOrder.{Earlier}
use Rattle.laws.specs.NeverFold as law
use Rattle.laws.proofs.NeverFold as law_proved
use Rattle.promises.specs.OfContracts.{together}
use Rattle.promises.specs.Calls.{Call, told}
use Rattle.promises.specs.NeverFold as rules
use Rattle.instants.specs.contracts.instants as instants
use Rattle.utc.specs.contracts.utc_of_tt as utc_of_tt_lem
use Rattle.rules.specs.Dates.{ut_and_tt}

module _ {M : Type 1} {𝓤 : Ura M} (𝓛 : Logic 𝓤) (mem : Memory → SProp 𝓤) (run : Routine → Fun 𝓤) where
  abbrev pub InstantsCall : Type 0
  InstantsCall = Call 𝓤 instants.ended (instants.clauses 𝓛 mem run)

  abbrev pub instants_told : InstantsCall → SProp 𝓤
  instants_told = told 𝓤 instants.ended (instants.clauses 𝓛 mem run)

  abbrev pub UtcCall : Type 0
  UtcCall = Call 𝓤 utc_of_tt_lem.ended (utc_of_tt_lem.clauses 𝓛 mem run)

  abbrev pub utc_told : UtcCall → SProp 𝓤
  utc_told = told 𝓤 utc_of_tt_lem.ended (utc_of_tt_lem.clauses 𝓛 mem run)

  -- ---- two UTC times

  pub instants_same_only : (one other : InstantsCall) (v v' : Ut) (t : Tt)
      → one.answer ≡ Ok (ut_and_tt v t) → other.answer ≡ Ok (ut_and_tt v' t)
      → ent 𝓤 (conj 𝓤 (instants_told one) (instants_told other))
      (fact 𝓤 (utc_of one.passed.0 ≡ utc_of other.passed.0))
  instants_same_only one other v v' t e e' = together 𝓤 (id⊢ 𝓤 _) (id⊢ 𝓤 _) (λ p q.
      law_proved.same_tt one.passed.0 other.passed.0 v v' t t (sym p ∙ e) (sym q ∙ e') (λ i. t))

  pub instants_later_larger : (one other : InstantsCall) (v v' : Ut) (t t' : Tt)
      → one.answer ≡ Ok (ut_and_tt v t) → other.answer ≡ Ok (ut_and_tt v' t')
      → Earlier (utc_numbers (utc_of one.passed.0)) (utc_numbers (utc_of other.passed.0))
      → ent 𝓤 (conj 𝓤 (instants_told one) (instants_told other)) (fact 𝓤 (t.0 <ℤ t'.0))
  instants_later_larger one other v v' t t' e e' h = together 𝓤 (id⊢ 𝓤 _) (id⊢ 𝓤 _) (λ p q.
      law.later_larger one.passed.0 other.passed.0 v v' t t' (sym p ∙ e) (sym q ∙ e') h)

  -- ---- there and back

  pub instants_then_utc : (there : InstantsCall) (back : UtcCall) (v : Ut)
      → there.answer ≡ Ok (ut_and_tt v back.passed.0)
      → ent 𝓤 (conj 𝓤 (instants_told there) (utc_told back))
      (fact 𝓤 (back.answer ≡ Ok (utc_of there.passed.0)))
  instants_then_utc there back v e = together 𝓤 (id⊢ 𝓤 _) (id⊢ 𝓤 _) (λ p q.
      q ∙ rules.tt_then_utc there.passed.0 v back.passed.0 (sym p ∙ e))

  pub utc_then_instants : (back : UtcCall) (there : InstantsCall) (u : Utc) (d : ℤ)
      → back.answer ≡ Ok u → Between (− 900) (+ 900) d → there.passed.0 ≡ moment_with u d
      → ent 𝓤 (conj 𝓤 (utc_told back) (instants_told there))
      (fact 𝓤 (there.answer ≡ Ok (ut_and_tt (ut_of (moment_with u d)) back.passed.0)))
  utc_then_instants back there u d e h f = together 𝓤 (id⊢ 𝓤 _) (id⊢ 𝓤 _) (λ p q.
      q ∙ rw f (rules.utc_then_tt back.passed.0 u (sym p ∙ e) d h))
  -- ---- of each TT of the stretch
