-- What the inner functions are given: conditions on their numbers, cited by `requires`.
use Rattle.std.specs.Prelude.{◌≡◌, ◌<◌, ◌≤◌, ◌^◌, ℤ, pos, nat_abs, ◌<ℤ◌}
use Rattle.rules.specs.declared.Direction.{Direction}
use Rattle.rules.specs.Length.{squares, root}

-- a part and the length that it is brought from: their product with 2^30 fits
pub record PartFits (part l : ℤ) : Type 0 where
  pub part_le : nat_abs part ≤ 2 ^ 32
  pub length_pos : pos 0 <ℤ l
  pub length_le : nat_abs l ≤ 2 ^ 32

-- a direction whose squares' sum fits, and whose length is not nought
pub record NotNought (v : Direction) : Type 0 where
  pub fits : squares v < 2 ^ 63
  pub length_pos : 0 < root (squares v)

-- l is the length of v, and is not nought
pub record HasLength (v : Direction) (l : ℤ) : Type 0 where
  pub fits : squares v < 2 ^ 63
  pub length : l ≡ pos (root (squares v))
  pub length_pos : pos 0 <ℤ l
