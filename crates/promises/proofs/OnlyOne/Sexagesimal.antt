-- No second answer fits: the functions of crate `sexagesimal`. Written by tools/only_one.py.
use seplogic.Ra.Ura.{Ura}
use base.Logic.{SProp}
use prog.Memory.{Memory}
use prog.Routine.{Routine}
use types.Logic.{Logic}
use contract.Monad.{Fun}
use Rattle.promises.specs.OfContracts.{OneAnswerAndContent, one_each, content_of_two}
use Rattle.sexagesimal.specs.contracts.append_hours as append_hours
use Rattle.sexagesimal.specs.contracts.append_bearing as append_bearing
use Rattle.sexagesimal.specs.contracts.append_elevation as append_elevation
use Rattle.sexagesimal.specs.contracts.put_hours as put_hours
use Rattle.sexagesimal.specs.contracts.put_bearing as put_bearing
use Rattle.sexagesimal.specs.contracts.put_elevation as put_elevation

module _ {M : Type 1} {𝓤 : Ura M} (𝓛 : Logic 𝓤) (mem : Memory → SProp 𝓤) (run : Routine → Fun 𝓤) where
  pub append_hours_one : (N : _) → OneAnswerAndContent 𝓤 (append_hours.ended N) (append_hours.clauses N 𝓛 mem run)
      (λ κs x. x.1.0.now.items)
  append_hours_one N κs passed g r s x y = content_of_two 𝓤 r s _ _ _

  pub append_bearing_one : (N : _) → OneAnswerAndContent 𝓤 (append_bearing.ended N) (append_bearing.clauses N 𝓛 mem run)
      (λ κs x. x.1.0.now.items)
  append_bearing_one N κs passed g r s x y = content_of_two 𝓤 r s _ _ _

  pub append_elevation_one : (N : _) → OneAnswerAndContent 𝓤 (append_elevation.ended N)
      (append_elevation.clauses N 𝓛 mem run)
      (λ κs x. x.1.0.now.items)
  append_elevation_one N κs passed g r s x y = content_of_two 𝓤 r s _ _ _

  pub put_hours_one : OneAnswerAndContent 𝓤 put_hours.ended (put_hours.clauses 𝓛 mem run)
      (λ κs x. x.1.1.0.now)
  put_hours_one κs passed g r s x y = one_each 𝓤 r s _ _ _ _

  pub put_bearing_one : OneAnswerAndContent 𝓤 put_bearing.ended (put_bearing.clauses 𝓛 mem run)
      (λ κs x. x.1.1.0.now)
  put_bearing_one κs passed g r s x y = one_each 𝓤 r s _ _ _ _

  pub put_elevation_one : OneAnswerAndContent 𝓤 put_elevation.ended (put_elevation.clauses 𝓛 mem run)
      (λ κs x. x.1.1.0.now)
  put_elevation_one κs passed g r s x y = one_each 𝓤 r s _ _ _ _
