-- `arcs::arc` meets its contract.
use mathlib.Core.Path.{◌∙◌}
use native.Mathlib.Omega.{arith}
use lib.Dec.{lit≤}
use lib.IntN.{pos}
use borrow.Author.Rules.{rules}
use Rattle.rules.specs.Units.{unit}
use Rattle.rules.specs.Rounding.{rnd}
use Rattle.rules.specs.Circle.{square_parts}
use Rattle.rules.specs.Reading as rule
use Rattle.laws.specs.UpTo.{UpTo, up_to_le, up_to_of_le}
use Rattle.laws.specs.Circle.{half_quarter_parts, square_range}
use Rattle.laws.specs.Arc.{three_sevenths, arc_factor_range}
use Rattle.words.specs.Holds.{Holds, bits, arg, got}
use Rattle.rounding.proofs.ByUnit.{product_fits, product_asked, product_rounded}
use Rattle.arcs.proofs.arc.Goals as goal

u_holds : (c : goal.Start) → Holds (bits c.args.u) c.args.u three_sevenths
u_holds c = arg c.args.u (up_to_le c.args.u three_sevenths c.requires) tt

w_range : (c : goal.Start) → UpTo (square_parts c.args.u) unit
w_range c = square_range c.args.u (up_to_of_le c.args.u three_sevenths half_quarter_parts (lit≤ tt) c.requires)

w_holds : (c : goal.After-square_parts-w) → Holds (bits c.square_parts-w.result) (square_parts c.args.u) unit
w_holds c =
    got (rw (u_holds c.before).value at c.square_parts-w.ensures)
    (up_to_le (square_parts c.args.u) unit (w_range c.before)) tt

p_holds : (c : goal.After-arc_factor)
    → Holds (bits c.arc_factor.result)
    (rule.arc_stages (square_parts c.args.u) rule.arc_row (rnd (pos unit) 23)) unit
p_holds c =
    let w = square_parts c.args.u in
    got (rw (w_holds c.before).value at c.arc_factor.ensures)
    (up_to_le (rule.arc_stages w rule.arc_row (rnd (pos unit) 23)) unit
    (arc_factor_range w (w_range c.before.before))) tt

pub returns : goal.returns
unfolding rule.arc
returns c =
    search rules
    ∙ product_rounded (u_holds c.before.before.before) (p_holds c.before) tt c.rnd_by_unit.ensures

pub square_parts-w-requires : goal.square_parts-w-requires
square_parts-w-requires c = rw (u_holds c).value (omega (arith, (u_holds c).size))

pub arc_factor-requires : goal.arc_factor-requires
arc_factor-requires c = rw (w_holds c).value (w_range c.before)

pub overflow_mul-u : goal.overflow_mul-u
overflow_mul-u c = product_fits (u_holds c.before.before) (p_holds c) tt

pub rnd_by_unit-requires : goal.rnd_by_unit-requires
rnd_by_unit-requires c = product_asked (u_holds c.before.before) (p_holds c) tt
