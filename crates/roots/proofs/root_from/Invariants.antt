-- The invariant: some number of trials is left that makes the root, as at the beginning. The measure is how many are
-- left, which the power's binary digits are: one less after each trial.
use Rattle.std.proofs.Common.{nat_abs}
use Rattle.rules.specs.ManualRoot.{binary_digits}
use Rattle.roots.specs.Trials.{Begun}
use Rattle.roots.proofs.root_from.Given as goal

abbrev pub invariant-loop-power : goal.invariant-loop-power
invariant-loop-power l = Begun l.n l.low l.power

abbrev pub decreases-loop-power : goal.decreases-loop-power
decreases-loop-power l = binary_digits (nat_abs l.power)
