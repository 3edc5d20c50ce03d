-- No second answer fits: the functions of crate `series`. Written by tools/only_one.py.
use seplogic.Ra.Ura.{Ura}
use base.Logic.{SProp}
use prog.Memory.{Memory}
use prog.Routine.{Routine}
use types.Logic.{Logic}
use contract.Monad.{Fun}
use Rattle.promises.specs.OfContracts.{OneAnswer, one}
use Rattle.series.specs.contracts.parts.radian_parts as radian_parts
use Rattle.series.specs.contracts.parts.square_parts as square_parts
use Rattle.series.specs.contracts.parts.pair_of_parts as pair_of_parts

module _ {M : Type 1} {𝓤 : Ura M} (𝓛 : Logic 𝓤) (mem : Memory → SProp 𝓤) (run : Routine → Fun 𝓤) where
  pub radian_parts_one : OneAnswer 𝓤 radian_parts.ended (radian_parts.clauses 𝓛 mem run)
  radian_parts_one κs passed g r s x y = one 𝓤 r s _

  pub square_parts_one : OneAnswer 𝓤 square_parts.ended (square_parts.clauses 𝓛 mem run)
  square_parts_one κs passed g r s x y = one 𝓤 r s _

  pub pair_of_parts_one : OneAnswer 𝓤 pair_of_parts.ended (pair_of_parts.clauses 𝓛 mem run)
  pair_of_parts_one κs passed g r s x y = one 𝓤 r s _
