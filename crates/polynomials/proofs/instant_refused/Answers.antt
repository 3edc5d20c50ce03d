-- `polynomials::instant_refused` meets its contract.
use mathlib.Core.Path.{◌≡◌, ap}
use mathlib.Core.Bool.{not}
use mir.Syntax.{w64}
use mir.Val.{to_z, of_z}
use mir.Facts.{to_z-of_z}
use Rattle.rules.specs.Units.{within}
use Rattle.rules.specs.Polynomials.{instant_refused}
use Rattle.polynomials.proofs.instant_refused.Goals as goal
use Rattle.polynomials.proofs.instant_refused.Goals.{Start}

t_held : (c : Start) → to_z w64 (of_z w64 c.args.t) ≡ c.args.t
t_held c = to_z-of_z c.ranges.t

pub returns : goal.returns
unfolding instant_refused within
returns c = ap not (simp t_held at c.is_between.ensures)
