-- No second answer fits: the functions of crate `calendar`. Written by tools/only_one.py.
use seplogic.Ra.Ura.{Ura}
use base.Logic.{SProp}
use prog.Memory.{Memory}
use prog.Routine.{Routine}
use types.Logic.{Logic}
use contract.Monad.{Fun}
use Rattle.promises.specs.OfContracts.{OneAnswer, one}
use Rattle.calendar.specs.contracts.day_of as day_of
use Rattle.calendar.specs.contracts.date_of as date_of
use Rattle.calendar.specs.contracts.counts.date_at as date_at
use Rattle.calendar.specs.contracts.dates.day_refused as day_refused
use Rattle.calendar.specs.contracts.dates.day_number as day_number

module _ {M : Type 1} {𝓤 : Ura M} (𝓛 : Logic 𝓤) (mem : Memory → SProp 𝓤) (run : Routine → Fun 𝓤) where
  pub day_of_one : OneAnswer 𝓤 day_of.ended (day_of.clauses 𝓛 mem run)
  day_of_one κs passed g r s x y = one 𝓤 r s _

  pub date_of_one : OneAnswer 𝓤 date_of.ended (date_of.clauses 𝓛 mem run)
  date_of_one κs passed g r s x y = one 𝓤 r s _

  pub date_at_one : OneAnswer 𝓤 date_at.ended (date_at.clauses 𝓛 mem run)
  date_at_one κs passed g r s x y = one 𝓤 r s _

  pub day_refused_one : OneAnswer 𝓤 day_refused.ended (day_refused.clauses 𝓛 mem run)
  day_refused_one κs passed g r s x y = one 𝓤 r s _

  pub day_number_one : OneAnswer 𝓤 day_number.ended (day_number.clauses 𝓛 mem run)
  day_number_one κs passed g r s x y = one 𝓤 r s _
