-- `series::parts::square_parts` meets its contract.
use mathlib.Core.Path.{◌∙◌}
use borrow.Author.Rules.{rules}
use Rattle.rules.specs.Units.{unit}
use Rattle.rules.specs.Circle as rule
use Rattle.words.specs.Holds.{Holds, bits, arg}
use Rattle.rounding.proofs.ByUnit.{product_fits, product_asked, product_rounded}
use Rattle.series.proofs.parts.square_parts.Goals as goal

x_holds : (c : goal.Start) → Holds (bits c.args.x) c.args.x unit
x_holds c = arg c.args.x c.requires tt

pub overflow_mul-x : goal.overflow_mul-x
overflow_mul-x c = product_fits (x_holds c) (x_holds c) tt

pub rnd_by_unit-requires : goal.rnd_by_unit-requires
rnd_by_unit-requires c = product_asked (x_holds c) (x_holds c) tt

pub returns : goal.returns
unfolding rule.square_parts
returns c =
    search rules ∙ product_rounded (x_holds c.before) (x_holds c.before) tt c.rnd_by_unit.ensures
