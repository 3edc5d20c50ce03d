-- p is the row so far, from nought to a whole.
use Rattle.std.specs.Prelude.{◌≡◌, map, take, pos, nat_abs}
use Rattle.rules.specs.Units.{unit}
use Rattle.rules.specs.Circle as rule
use Rattle.laws.specs.UpTo.{UpTo}
use Rattle.series.proofs.rows.stages.Given as goal

abbrev pub invariant-loop-k : goal.invariant-loop-k
invariant-loop-k g l = record {
  so_far : l.p ≡ rule.stages l.fn.w (take l.k-index (map nat_abs l.fn.row)) (pos unit);
  range : UpTo l.p unit;
}
