-- Change C-22 of the functions themselves, by what their contracts tell of two calls: `instants::instants` of two UTC
-- times, and `utc::utc_of_tt` before or after it. `turbelicus_utc` gives the same numbers to C.
use Rattle.std.specs.Prelude.{◌≡◌, Ok}
use Rattle.std.proofs.Common.{◌∙◌}
use Rattle.std.proofs.Math.Path.{ap}
use seplogic.Ra.Ura.{Ura}
use base.Logic.{SProp, id⊢}
use prog.Memory.{Memory}
use prog.Routine.{Routine}
use types.Logic.{Logic}
use contract.Monad.{Fun}
use Rattle.rules.specs.Refusals.{given}
use Rattle.rules.specs.Answers.{clocked_answer}
use Rattle.answers.specs.Given.{tt_of}
use Rattle.answers.specs.Answers.{clocked_out}
use Rattle.promises.specs.OfContracts.{Tells, so_told}
use Rattle.promises.specs.Demand1.Clocks.{utc_given}
use Rattle.promises.specs.NeverFold as rules
use Rattle.utc.specs.contracts.utc_of_tt as utc_of_tt_lem
use Rattle.module.specs.contracts.clocks.turbelicus_utc as turbelicus_utc

module _ {M : Type 1} {𝓤 : Ura M} (𝓛 : Logic 𝓤) (mem : Memory → SProp 𝓤) (run : Routine → Fun 𝓤) where
  -- the one UTC time that it comes from
  pub utc_of_tt_one : Tells 𝓤 utc_of_tt_lem.ended (utc_of_tt_lem.clauses 𝓛 mem run)
      (λ κs passed a x. (h : rules.InStretch passed.0)
      → a ≡ Ok (rules.from_exactly_one passed.0 h).utc)
  utc_of_tt_one κs passed g a x = so_told 𝓤 (id⊢ 𝓤 _)
      (λ e h. e ∙ (rules.from_exactly_one passed.0 h).answered)

  -- what C gets: 0 and its seven numbers
  pub turbelicus_utc_one : Tells 𝓤 turbelicus_utc.ended (turbelicus_utc.clauses 𝓛 mem run)
      (λ κs passed a x. (h : rules.InStretch (tt_of passed.0))
      → a ≡ utc_given (rules.from_exactly_one (tt_of passed.0) h).utc)
  unfolding clocked_out clocked_answer given
  turbelicus_utc_one κs passed g a x =
      so_told 𝓤 (id⊢ 𝓤 _)
      (λ e h. e ∙ ap (λ c. clocked_out (clocked_answer c)) (rules.from_exactly_one (tt_of passed.0) h).answered)
