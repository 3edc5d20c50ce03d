-- `tests_functions::numbers::tests_whole_root` meets its contract.
use Rattle.std.proofs.Common.{rules, arith, ℤ, not, ◌≡◌, ◌∙◌, pos, nat_abs}
use Rattle.std.proofs.lemmas.Int.{ints}
use Rattle.std.specs.Int.Signed.{le_z, lt_z}
use mir.Facts.{to_z-of_z}
use Rattle.std.specs.Option.{IfSome}
use Rattle.rules.specs.Length.{root}
use Rattle.tests_functions.specs.Numbers.{whole_root_tried}
use Rattle.tests_functions.proofs.OneNumber.{tried_is}
use Rattle.tests_functions.proofs.numbers.tests_whole_root.Goals as goal

from_0 : (n : ℤ) → le_z (pos 0) n ≡ not (lt_z n (pos 0))
from_0 n = grind (arith, ints)

pub returns : goal.returns
unfolding whole_root_tried
returns c =
    let given : IfSome c.then.result (λ x. x ≡ pos (root (nat_abs c.args.n))) = search (rules, c.then.ensures.some) in
    c.into.ensures ∙ tried_is c.then.result _ _ (rw (to_z-of_z c.ranges.n, from_0 c.args.n) at c.then.ensures.variant) given
