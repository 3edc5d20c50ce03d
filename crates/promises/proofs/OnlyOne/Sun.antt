-- No second answer fits: the functions of crate `sun`. Written by tools/only_one.py.
use seplogic.Ra.Ura.{Ura}
use base.Logic.{SProp}
use prog.Memory.{Memory}
use prog.Routine.{Routine}
use types.Logic.{Logic}
use contract.Monad.{Fun}
use Rattle.promises.specs.OfContracts.{OneAnswer, one}
use Rattle.sun.specs.contracts.sun_longitude_of as sun_longitude_of
use Rattle.sun.specs.contracts.mean_longitude_of as mean_longitude_of
use Rattle.sun.specs.contracts.sun_longitude as sun_longitude
use Rattle.sun.specs.contracts.perihelion.perihelion_of as perihelion_of
use Rattle.sun.specs.contracts.perihelion.perihelion as perihelion

module _ {M : Type 1} {𝓤 : Ura M} (𝓛 : Logic 𝓤) (mem : Memory → SProp 𝓤) (run : Routine → Fun 𝓤) where
  pub sun_longitude_of_one : OneAnswer 𝓤 sun_longitude_of.ended (sun_longitude_of.clauses 𝓛 mem run)
  sun_longitude_of_one κs passed g r s x y = one 𝓤 r s _

  pub mean_longitude_of_one : OneAnswer 𝓤 mean_longitude_of.ended (mean_longitude_of.clauses 𝓛 mem run)
  mean_longitude_of_one κs passed g r s x y = one 𝓤 r s _

  pub sun_longitude_one : OneAnswer 𝓤 sun_longitude.ended (sun_longitude.clauses 𝓛 mem run)
  sun_longitude_one κs passed g r s x y = one 𝓤 r s _

  pub perihelion_of_one : OneAnswer 𝓤 perihelion_of.ended (perihelion_of.clauses 𝓛 mem run)
  perihelion_of_one κs passed g r s x y = one 𝓤 r s _

  pub perihelion_one : OneAnswer 𝓤 perihelion.ended (perihelion.clauses 𝓛 mem run)
  perihelion_one κs passed g r s x y = one 𝓤 r s _
