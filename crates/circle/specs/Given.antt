-- What the private functions ask of their numbers, by name: each is met for every angle and every reading.
use Rattle.std.specs.Prelude.{◌≤◌, ℤ, nat_abs}
use Rattle.rules.specs.Units.{unit}
use Rattle.rules.specs.declared.Pair.{Pair}
use Rattle.laws.specs.UpTo.{UpTo}

-- a pair that is turned to its quarter: no part is above a whole
pub record QuarterGiven (q : ℤ) (p : Pair) : Type 0 where
  pub q_range : UpTo q 3
  pub cosine_le : nat_abs p.cosine ≤ unit
  pub sine_le : nat_abs p.sine ≤ unit
