-- p is the row so far, and no more than a whole.
use Rattle.std.specs.Prelude.{◌≡◌, take, pos}
use Rattle.rules.specs.Units.{unit}
use Rattle.rules.specs.Rounding.{rnd}
use Rattle.rules.specs.Reading as rule
use Rattle.arcs.proofs.arc_factor.Given as goal

abbrev pub invariant-loop-k : goal.invariant-loop-k
invariant-loop-k l = record {
  so_far : l.p ≡ rule.arc_stages l.w (take l.k-index rule.arc_row) (rnd (pos unit) 23);
}
