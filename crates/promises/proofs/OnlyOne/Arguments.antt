-- No second answer fits: the functions of crate `arguments`. Written by tools/only_one.py.
use seplogic.Ra.Ura.{Ura}
use base.Logic.{SProp}
use prog.Memory.{Memory}
use prog.Routine.{Routine}
use types.Logic.{Logic}
use contract.Monad.{Fun}
use Rattle.promises.specs.OfContracts.{OneAnswer, one}
use Rattle.arguments.specs.contracts.arguments_of as arguments_of
use Rattle.arguments.specs.contracts.sun_of as sun_of
use Rattle.arguments.specs.contracts.arguments as arguments

module _ {M : Type 1} {𝓤 : Ura M} (𝓛 : Logic 𝓤) (mem : Memory → SProp 𝓤) (run : Routine → Fun 𝓤) where
  pub arguments_of_one : OneAnswer 𝓤 arguments_of.ended (arguments_of.clauses 𝓛 mem run)
  arguments_of_one κs passed g r s x y = one 𝓤 r s _

  pub sun_of_one : OneAnswer 𝓤 sun_of.ended (sun_of.clauses 𝓛 mem run)
  sun_of_one κs passed g r s x y = one 𝓤 r s _

  pub arguments_one : OneAnswer 𝓤 arguments.ended (arguments.clauses 𝓛 mem run)
  arguments_one κs passed g r s x y = one 𝓤 r s _
