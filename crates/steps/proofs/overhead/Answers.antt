-- `steps::overhead` meets its contract: each turn of an accepted direction is accepted.
use mathlib.Core.Path.{ap, ◌∙◌}
use Rattle.rules.specs.Units.{+◌}
use Rattle.rules.specs.Length.{squares}
use Rattle.rules.specs.Turning.{Accepted, turn_by}
use Rattle.rules.specs.Place.{overhead}
use Rattle.laws.proofs.Turning.{turn_by_accepted}
use Rattle.steps.proofs.overhead.Goals as goal

pub returns-clause-value : goal.returns-clause-value
unfolding overhead
returns-clause-value c = rw (← c.n.view_is) (c.turn_by-2.ensures ∙ ap (turn_by (+ 2) _) c.turn_by.ensures)

first_accepted : (c : goal.After-turn_by) → Accepted (squares c.turn_by.result)
first_accepted c = rw c.turn_by.ensures (turn_by_accepted _ _ _ c.n.invariant.minus_sidereal c.requires)

pub returns-clause-accepted : goal.returns-clause-accepted
returns-clause-accepted c =
    rw c.turn_by-2.ensures (turn_by_accepted _ _ _ c.n.invariant.latitude_less_quarter (first_accepted c.before))

pub turn_by-requires : goal.turn_by-requires
turn_by-requires c = record { direction = c.requires; pair = c.n.invariant.minus_sidereal }

pub turn_by-requires-2 : goal.turn_by-requires-2
turn_by-requires-2 c = record { direction = first_accepted c; pair = c.n.invariant.latitude_less_quarter }
