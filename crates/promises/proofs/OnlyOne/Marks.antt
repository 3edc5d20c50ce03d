-- No second answer fits: the functions of crate `marks`. Written by tools/only_one.py.
use seplogic.Ra.Ura.{Ura}
use base.Logic.{SProp}
use prog.Memory.{Memory}
use prog.Routine.{Routine}
use types.Logic.{Logic}
use contract.Monad.{Fun}
use Rattle.promises.specs.OfContracts.{OneAnswer, one}
use Rattle.marks.specs.contracts.has_angle as has_angle
use Rattle.marks.specs.contracts.or_nought as or_nought
use Rattle.marks.specs.contracts.mark_of as mark_of
use Rattle.marks.specs.contracts.is_filled as is_filled

module _ {M : Type 1} {𝓤 : Ura M} (𝓛 : Logic 𝓤) (mem : Memory → SProp 𝓤) (run : Routine → Fun 𝓤) where
  pub has_angle_one : OneAnswer 𝓤 has_angle.ended (has_angle.clauses 𝓛 mem run)
  has_angle_one κs passed g r s x y = one 𝓤 r s _

  pub or_nought_one : OneAnswer 𝓤 or_nought.ended (or_nought.clauses 𝓛 mem run)
  or_nought_one κs passed g r s x y = one 𝓤 r s _

  pub mark_of_one : OneAnswer 𝓤 mark_of.ended (mark_of.clauses 𝓛 mem run)
  mark_of_one κs passed g r s x y = one 𝓤 r s _

  pub is_filled_one : OneAnswer 𝓤 is_filled.ended (is_filled.clauses 𝓛 mem run)
  is_filled_one κs passed g r s x y = one 𝓤 r s _
