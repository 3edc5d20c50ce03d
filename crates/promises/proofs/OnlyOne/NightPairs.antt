-- No second answer fits: the functions of crate `night_pairs`. Written by tools/only_one.py.
use seplogic.Ra.Ura.{Ura}
use base.Logic.{SProp}
use prog.Memory.{Memory}
use prog.Routine.{Routine}
use types.Logic.{Logic}
use contract.Monad.{Fun}
use Rattle.promises.specs.OfContracts.{OneAnswer, one}
use Rattle.night_pairs.specs.contracts.opposite_of as opposite_of
use Rattle.night_pairs.specs.contracts.aberration as aberration
use Rattle.night_pairs.specs.contracts.aberration_x as aberration_x
use Rattle.night_pairs.specs.contracts.aberration_y as aberration_y
use Rattle.night_pairs.specs.contracts.sidereal_pair as sidereal_pair
use Rattle.night_pairs.specs.contracts.latitude_pair as latitude_pair

module _ {M : Type 1} {𝓤 : Ura M} (𝓛 : Logic 𝓤) (mem : Memory → SProp 𝓤) (run : Routine → Fun 𝓤) where
  pub opposite_of_one : OneAnswer 𝓤 opposite_of.ended (opposite_of.clauses 𝓛 mem run)
  opposite_of_one κs passed g r s x y = one 𝓤 r s _

  pub aberration_one : OneAnswer 𝓤 aberration.ended (aberration.clauses 𝓛 mem run)
  aberration_one κs passed g r s x y = one 𝓤 r s _

  pub aberration_x_one : OneAnswer 𝓤 aberration_x.ended (aberration_x.clauses 𝓛 mem run)
  aberration_x_one κs passed g r s x y = one 𝓤 r s _

  pub aberration_y_one : OneAnswer 𝓤 aberration_y.ended (aberration_y.clauses 𝓛 mem run)
  aberration_y_one κs passed g r s x y = one 𝓤 r s _

  pub sidereal_pair_one : OneAnswer 𝓤 sidereal_pair.ended (sidereal_pair.clauses 𝓛 mem run)
  sidereal_pair_one κs passed g r s x y = one 𝓤 r s _

  pub latitude_pair_one : OneAnswer 𝓤 latitude_pair.ended (latitude_pair.clauses 𝓛 mem run)
  latitude_pair_one κs passed g r s x y = one 𝓤 r s _
