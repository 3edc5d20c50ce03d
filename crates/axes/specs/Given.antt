-- What the inner functions are given: conditions on their numbers, cited by `requires`.
use Rattle.rules.specs.declared.Pair.{Pair}
use Rattle.rules.specs.declared.Direction.{Direction}
use Rattle.rules.specs.Length.{squares, pair_squares}
use Rattle.rules.specs.Turning.{Accepted}

-- a direction and a pair of which a turn is made
pub record TurnFits (v : Direction) (p : Pair) : Type 0 where
  pub direction : Accepted (squares v)
  pub pair : Accepted (pair_squares p)
