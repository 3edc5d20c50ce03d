-- `steps::precessed` meets its contract: each turn of an accepted direction is accepted.
use mathlib.Core.Path.{ap, ◌∙◌}
use Rattle.rules.specs.Units.{+◌}
use Rattle.rules.specs.Length.{squares}
use Rattle.rules.specs.Turning.{Accepted, turn_by}
use Rattle.rules.specs.Place.{precessed}
use Rattle.laws.proofs.Turning.{turn_by_accepted}
use Rattle.steps.proofs.precessed.Goals as goal

pub returns : goal.returns
unfolding precessed
returns c =
    rw (← c.n.view_is) (c.turn_by-3.ensures ∙ ap (turn_by (+ 3) _) (c.turn_by-2.ensures ∙ ap (turn_by (+ 2) _) c.turn_by.ensures))

first_accepted : (c : goal.After-turn_by) → Accepted (squares c.turn_by.result)
first_accepted c = rw c.turn_by.ensures (turn_by_accepted _ _ _ c.n.invariant.zeta c.requires)

second_accepted : (c : goal.After-turn_by-2) → Accepted (squares c.turn_by-2.result)
second_accepted c =
    rw c.turn_by-2.ensures (turn_by_accepted _ _ _ c.n.invariant.minus_theta (first_accepted c.before))

pub turn_by-requires : goal.turn_by-requires
turn_by-requires c = record { direction = c.requires; pair = c.n.invariant.zeta }

pub turn_by-requires-2 : goal.turn_by-requires-2
turn_by-requires-2 c = record { direction = first_accepted c; pair = c.n.invariant.minus_theta }

pub turn_by-requires-3 : goal.turn_by-requires-3
turn_by-requires-3 c = record { direction = second_accepted c; pair = c.n.invariant.z }
