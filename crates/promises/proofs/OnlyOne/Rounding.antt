-- No second answer fits: the functions of crate `rounding`. Written by tools/only_one.py.
use seplogic.Ra.Ura.{Ura}
use base.Logic.{SProp}
use prog.Memory.{Memory}
use prog.Routine.{Routine}
use types.Logic.{Logic}
use contract.Monad.{Fun}
use Rattle.promises.specs.OfContracts.{OneAnswer, one}
use Rattle.rounding.specs.contracts.rnd_quotient as rnd_quotient
use Rattle.rounding.specs.contracts.rnd_short_quotient as rnd_short_quotient
use Rattle.rounding.specs.contracts.rnd_by_unit as rnd_by_unit
use Rattle.rounding.specs.contracts.rnd_product_quotient as rnd_product_quotient

module _ {M : Type 1} {𝓤 : Ura M} (𝓛 : Logic 𝓤) (mem : Memory → SProp 𝓤) (run : Routine → Fun 𝓤) where
  pub rnd_quotient_one : OneAnswer 𝓤 rnd_quotient.ended (rnd_quotient.clauses 𝓛 mem run)
  rnd_quotient_one κs passed g r s x y = one 𝓤 r s _

  pub rnd_short_quotient_one : OneAnswer 𝓤 rnd_short_quotient.ended (rnd_short_quotient.clauses 𝓛 mem run)
  rnd_short_quotient_one κs passed g r s x y = one 𝓤 r s _

  pub rnd_by_unit_one : OneAnswer 𝓤 rnd_by_unit.ended (rnd_by_unit.clauses 𝓛 mem run)
  rnd_by_unit_one κs passed g r s x y = one 𝓤 r s _

  pub rnd_product_quotient_one : OneAnswer 𝓤 rnd_product_quotient.ended (rnd_product_quotient.clauses 𝓛 mem run)
  rnd_product_quotient_one κs passed g r s x y = one 𝓤 r s _
