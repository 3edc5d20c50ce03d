-- No second answer fits: the functions of crate `arcs`. Written by tools/only_one.py.
use seplogic.Ra.Ura.{Ura}
use base.Logic.{SProp}
use prog.Memory.{Memory}
use prog.Routine.{Routine}
use types.Logic.{Logic}
use contract.Monad.{Fun}
use Rattle.promises.specs.OfContracts.{OneAnswer, one}
use Rattle.arcs.specs.contracts.arc as arc
use Rattle.arcs.specs.contracts.in_microarcseconds as in_microarcseconds

module _ {M : Type 1} {𝓤 : Ura M} (𝓛 : Logic 𝓤) (mem : Memory → SProp 𝓤) (run : Routine → Fun 𝓤) where
  pub arc_one : OneAnswer 𝓤 arc.ended (arc.clauses 𝓛 mem run)
  arc_one κs passed g r s x y = one 𝓤 r s _

  pub in_microarcseconds_one : OneAnswer 𝓤 in_microarcseconds.ended (in_microarcseconds.clauses 𝓛 mem run)
  in_microarcseconds_one κs passed g r s x y = one 𝓤 r s _
