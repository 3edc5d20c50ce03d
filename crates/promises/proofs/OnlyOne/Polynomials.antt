-- No second answer fits: the functions of crate `polynomials`. Written by tools/only_one.py.
use seplogic.Ra.Ura.{Ura}
use base.Logic.{SProp}
use prog.Memory.{Memory}
use prog.Routine.{Routine}
use types.Logic.{Logic}
use contract.Monad.{Fun}
use Rattle.promises.specs.OfContracts.{OneAnswer, one}
use Rattle.polynomials.specs.contracts.linear as linear
use Rattle.polynomials.specs.contracts.quadratic as quadratic
use Rattle.polynomials.specs.contracts.cubic as cubic
use Rattle.polynomials.specs.contracts.instant_refused as instant_refused
use Rattle.polynomials.specs.contracts.range.in_range as in_range

module _ {M : Type 1} {𝓤 : Ura M} (𝓛 : Logic 𝓤) (mem : Memory → SProp 𝓤) (run : Routine → Fun 𝓤) where
  pub linear_one : OneAnswer 𝓤 linear.ended (linear.clauses 𝓛 mem run)
  linear_one κs passed g r s x y = one 𝓤 r s _

  pub quadratic_one : OneAnswer 𝓤 quadratic.ended (quadratic.clauses 𝓛 mem run)
  quadratic_one κs passed g r s x y = one 𝓤 r s _

  pub cubic_one : OneAnswer 𝓤 cubic.ended (cubic.clauses 𝓛 mem run)
  cubic_one κs passed g r s x y = one 𝓤 r s _

  pub instant_refused_one : OneAnswer 𝓤 instant_refused.ended (instant_refused.clauses 𝓛 mem run)
  instant_refused_one κs passed g r s x y = one 𝓤 r s _

  pub in_range_one : (T : _) (T1 : _) (T2 : _) (T3 : _) (T4 : _) → OneAnswer 𝓤 (in_range.ended T T1 T2 T3 T4)
      (in_range.clauses T T1 T2 T3 T4 𝓛 mem run)
  in_range_one T T1 T2 T3 T4 κs passed g r s x y = one 𝓤 r s _
