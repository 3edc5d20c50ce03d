-- What the private functions ask of their numbers, by name: each is met for every angle and every reading.
use Rattle.std.specs.Prelude.{◌≤◌, ◌<◌, List, [], ◌∷◌, ℤ, pos, nat_abs, ⊤}
use Rattle.rules.specs.Units.{unit}
use Rattle.rules.specs.Length.{pair_squares}
use Rattle.rules.specs.declared.Pair.{Pair}
use Rattle.laws.specs.UpTo.{UpTo}
use Rattle.roots.specs.NearSquare.{NearSquare}

-- a stage of a row: w and p from nought to a whole, k from 1 to the row's largest
pub record StageGiven (w k p : ℤ) : Type 0 where
  pub w_range : UpTo w unit
  pub p_range : UpTo p unit
  pub k_pos : 0 < nat_abs k
  pub k_range : UpTo k 132

-- each k of a row
abbrev pub EachFits : List ℤ → Type 0
EachFits [] = ⊤
EachFits (k ∷ ks) = (0 < nat_abs k) × UpTo k 132 × EachFits ks

-- a row: w from nought to a whole, and each k as a stage has it
pub record RowGiven (w : ℤ) (row : List ℤ) : Type 0 where
  pub w_range : UpTo w unit
  pub each_fits : EachFits row

-- a pair brought to length: no part is above a whole, and the length is near one
pub record PairGiven (p : Pair) : Type 0 where
  pub cosine_le : nat_abs p.cosine ≤ unit
  pub sine_le : nat_abs p.sine ≤ unit
  pub near : NearSquare (pos (pair_squares p))
