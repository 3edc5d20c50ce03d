-- `series::parts::radian_parts` meets its contract.
use mathlib.Core.Path.{◌∙◌}
use borrow.Author.Rules.{rules}
use Rattle.rules.specs.Units.{half_quarter}
use Rattle.rules.specs.Circle.{radian_parts}
use Rattle.laws.specs.Product.{radians_fits}
use Rattle.laws.specs.UpTo.{up_to_le}
use Rattle.words.specs.Holds.{Holds, bits, arg}
use Rattle.series.proofs.parts.radian_parts.Goals as goal

r_holds : (c : goal.Start) → Holds (bits c.args.r) c.args.r half_quarter
r_holds c = arg c.args.r (up_to_le c.args.r half_quarter c.requires) tt

pub returns : goal.returns
unfolding radian_parts
returns c = search rules ∙ rw (r_holds c.before).value at c.rnd_product_quotient.ensures

pub rnd_product_quotient-requires : goal.rnd_product_quotient-requires
rnd_product_quotient-requires c = rw (r_holds c).value (radians_fits c.args.r (r_holds c).size)
