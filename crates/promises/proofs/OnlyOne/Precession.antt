-- No second answer fits: the functions of crate `precession`. Written by tools/only_one.py.
use seplogic.Ra.Ura.{Ura}
use base.Logic.{SProp}
use prog.Memory.{Memory}
use prog.Routine.{Routine}
use types.Logic.{Logic}
use contract.Monad.{Fun}
use Rattle.promises.specs.OfContracts.{OneAnswer, one}
use Rattle.precession.specs.contracts.precession_of as precession_of
use Rattle.precession.specs.contracts.precession as precession
use Rattle.precession.specs.contracts.obliquity_of as obliquity_of
use Rattle.precession.specs.contracts.obliquity as obliquity

module _ {M : Type 1} {𝓤 : Ura M} (𝓛 : Logic 𝓤) (mem : Memory → SProp 𝓤) (run : Routine → Fun 𝓤) where
  pub precession_of_one : OneAnswer 𝓤 precession_of.ended (precession_of.clauses 𝓛 mem run)
  precession_of_one κs passed g r s x y = one 𝓤 r s _

  pub precession_one : OneAnswer 𝓤 precession.ended (precession.clauses 𝓛 mem run)
  precession_one κs passed g r s x y = one 𝓤 r s _

  pub obliquity_of_one : OneAnswer 𝓤 obliquity_of.ended (obliquity_of.clauses 𝓛 mem run)
  obliquity_of_one κs passed g r s x y = one 𝓤 r s _

  pub obliquity_one : OneAnswer 𝓤 obliquity.ended (obliquity.clauses 𝓛 mem run)
  obliquity_one κs passed g r s x y = one 𝓤 r s _
