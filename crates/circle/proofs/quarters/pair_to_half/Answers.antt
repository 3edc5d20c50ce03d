-- `circle::quarters::pair_to_half` meets its contract.
use mathlib.Core.Path.{◌≡◌, sym, ap, ◌∙◌}
use mathlib.Core.Bool.{true, false}
use lib.Dec.{eqb}
use lib.IntN.{pos, nat_abs}
use borrow.Author.Tests.{eq-eqb, ne_eqb}
use Rattle.rules.specs.Units.{half_quarter}
use Rattle.rules.specs.Circle as rule
use Rattle.laws.specs.UpTo.{up_to_is, up_to_le, UpTo}
use Rattle.laws.specs.Circle.{half_quarter_parts}
use Rattle.laws.specs.CircleToHalf.{radian_parts_range}
use Rattle.words.specs.Holds.{Holds, bits, arg, got}
use Rattle.circle.specs.Bits.{size_of_bits}
use Rattle.circle.proofs.quarters.pair_to_half.Goals as goal
use Rattle.circle.proofs.quarters.pair_to_half.Lts as lts
use Rattle.circle.proofs.quarters.pair_to_half.Tie as tie
use Rattle.circle.proofs.quarters.pair_to_half.Reads as reads

r_holds : (c : lts.Start tie.the-claims reads.Pre reads.Post) → Holds (bits c.args.r) c.args.r half_quarter
r_holds c = arg c.args.r (up_to_le c.args.r half_quarter c.requires) tt

r_is : (c : lts.Start tie.the-claims reads.Pre reads.Post) → c.args.r ≡ pos (nat_abs c.args.r)
r_is c = up_to_is c.args.r half_quarter c.requires

bits_is : (c : lts.Start tie.the-claims reads.Pre reads.Post) → bits c.args.r ≡ nat_abs c.args.r
bits_is c = size_of_bits c.args.r half_quarter c.requires

x_range : (c : lts.Start tie.the-claims reads.Pre reads.Post) → UpTo (rule.radian_parts (pos (nat_abs c.args.r))) half_quarter_parts
x_range c = radian_parts_range (nat_abs c.args.r) (r_holds c).size

x_holds : (c : goal.After-radian_parts)
    → Holds (bits c.radian_parts.result)
    (rule.radian_parts (pos (nat_abs c.before.before.args.r))) half_quarter_parts
x_holds c =
    let b = c.before.before in
    got (rw (r_holds b).value at c.radian_parts.ensures ∙ ap rule.radian_parts (r_is b))
    (up_to_le (rule.radian_parts (pos (nat_abs b.args.r))) half_quarter_parts (x_range b)) tt

pub returns-then-r-eq-HALF_QUARTER : goal.returns-then-r-eq-HALF_QUARTER
unfolding rule.pair_to_half
returns-then-r-eq-HALF_QUARTER c =
    let b = c.before in
    let t : eqb (nat_abs b.args.r) half_quarter ≡ true =
    eq-eqb (nat_abs b.args.r) half_quarter (sym (bits_is b) ∙ c.if-r-eq-HALF_QUARTER.true) in
    rw t

pub radian_parts-requires : goal.radian_parts-requires
radian_parts-requires c = rw (r_holds c.before).value c.before.requires

pub pair_of_parts-requires : goal.pair_of_parts-requires
pair_of_parts-requires c = rw (x_holds c).value (x_range c.before.before)

pub returns : goal.returns
unfolding rule.pair_to_half
returns c =
    let b = c.before.before.before in
    let t : eqb (nat_abs b.args.r) half_quarter ≡ false =
    ne_eqb (nat_abs b.args.r) half_quarter (λ e. c.before.before.if-r-eq-HALF_QUARTER.false (bits_is b ∙ e)) in
    rw t (rw (x_holds c.before).value at c.pair_of_parts.ensures)
