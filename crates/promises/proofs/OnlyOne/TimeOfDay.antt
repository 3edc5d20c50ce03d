-- No second answer fits: the functions of crate `time_of_day`. Written by tools/only_one.py.
use seplogic.Ra.Ura.{Ura}
use base.Logic.{SProp}
use prog.Memory.{Memory}
use prog.Routine.{Routine}
use types.Logic.{Logic}
use contract.Monad.{Fun}
use Rattle.promises.specs.OfContracts.{OneAnswer, one}
use Rattle.time_of_day.specs.contracts.time_refused as time_refused
use Rattle.time_of_day.specs.contracts.ms_of_day as ms_of_day
use Rattle.time_of_day.specs.contracts.instants_at as instants_at
use Rattle.time_of_day.specs.contracts.days.ms_before as ms_before

module _ {M : Type 1} {𝓤 : Ura M} (𝓛 : Logic 𝓤) (mem : Memory → SProp 𝓤) (run : Routine → Fun 𝓤) where
  pub time_refused_one : OneAnswer 𝓤 time_refused.ended (time_refused.clauses 𝓛 mem run)
  time_refused_one κs passed g r s x y = one 𝓤 r s _

  pub ms_of_day_one : OneAnswer 𝓤 ms_of_day.ended (ms_of_day.clauses 𝓛 mem run)
  ms_of_day_one κs passed g r s x y = one 𝓤 r s _

  pub instants_at_one : OneAnswer 𝓤 instants_at.ended (instants_at.clauses 𝓛 mem run)
  instants_at_one κs passed g r s x y = one 𝓤 r s _

  pub ms_before_one : OneAnswer 𝓤 ms_before.ended (ms_before.clauses 𝓛 mem run)
  ms_before_one κs passed g r s x y = one 𝓤 r s _
