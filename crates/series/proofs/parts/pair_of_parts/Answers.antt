-- `series::parts::pair_of_parts` meets its contract.
use mathlib.Core.Path.{refl, ◌∙◌}
use native.Mathlib.Omega.{arith}
use lib.IntN.{ℤ, pos}
use borrow.Author.Rules.{rules}
use Rattle.rules.specs.Units.{unit}
use Rattle.rules.specs.Length.{pair_squares}
use Rattle.rules.specs.Circle.{square_parts, stages, sine_row, raw_sine, raw_cosine, pair_of_parts}
use Rattle.laws.specs.UpTo.{UpTo, up_to_le}
use Rattle.laws.specs.Circle.{half_quarter_parts, square_range, sine_stages_range, raw_sine_range, raw_cosine_range}
use Rattle.laws.specs.CircleLength.{raw_pair, raw_squares}
use Rattle.words.specs.Holds.{Holds, bits, arg, got}
use Rattle.rounding.proofs.ByUnit.{product_fits, product_asked, product_rounded}
use Rattle.roots.specs.NearSquare.{NearSquare}
use Rattle.series.specs.Given.{PairGiven}
use Rattle.series.proofs.parts.pair_of_parts.Goals as goal

x_holds : (c : goal.Start) → Holds (bits c.args.x) c.args.x half_quarter_parts
x_holds c = arg c.args.x (up_to_le c.args.x half_quarter_parts c.requires) tt

w_holds : (c : goal.After-square_parts-w) → Holds (bits c.square_parts-w.result) (square_parts c.before.args.x) unit
w_holds c =
    let x = c.before.args.x in
    got (rw (x_holds c.before).value at c.square_parts-w.ensures)
    (up_to_le (square_parts x) unit (square_range x c.before.requires)) tt

p_holds : (c : goal.After-sine_factor)
    → Holds (bits c.sine_factor.result) (stages (square_parts c.before.before.args.x) sine_row (pos unit)) unit
p_holds c =
    let x = c.before.before.args.x in
    got (rw (w_holds c.before).value at c.sine_factor.ensures)
    (up_to_le (stages (square_parts x) sine_row (pos unit)) unit (sine_stages_range x c.before.before.requires)) tt

s_holds : (c : goal.After-rnd_by_unit-sine)
    → Holds (bits c.rnd_by_unit-sine.result) (raw_sine c.before.before.before.args.x) half_quarter_parts
unfolding raw_sine
s_holds c =
    let x = c.before.before.before.args.x in
    got (product_rounded (x_holds c.before.before.before) (p_holds c.before) tt c.rnd_by_unit-sine.ensures)
    (up_to_le (raw_sine x) half_quarter_parts (raw_sine_range x c.before.before.before.requires)) tt

c_holds : (c : goal.After-raw_cosine-cosine)
    → Holds (bits c.raw_cosine-cosine.result) (raw_cosine c.before.before.before.before.args.x) unit
unfolding raw_cosine
c_holds c =
    let x = c.before.before.before.before.args.x in
    got (rw (w_holds c.before.before.before).value at c.raw_cosine-cosine.ensures)
    (up_to_le (raw_cosine x) unit (raw_cosine_range x c.before.before.before.before.requires)) tt

pub square_parts-w-requires : goal.square_parts-w-requires
square_parts-w-requires c = rw (x_holds c).value (omega (arith, (x_holds c).size))

pub sine_factor-requires : goal.sine_factor-requires
sine_factor-requires c = rw (w_holds c).value (square_range c.before.args.x c.before.requires)

pub overflow_mul-x : goal.overflow_mul-x
overflow_mul-x c = product_fits (x_holds c.before.before) (p_holds c) tt

pub rnd_by_unit-sine-requires : goal.rnd_by_unit-sine-requires
rnd_by_unit-sine-requires c = product_asked (x_holds c.before.before) (p_holds c) tt

pub raw_cosine-cosine-requires : goal.raw_cosine-cosine-requires
raw_cosine-cosine-requires c =
    let b = c.before.before.before in
    rw (w_holds c.before.before).value (square_range b.args.x b.requires)

near : (x : ℤ) → UpTo x half_quarter_parts → NearSquare (pos (pair_squares (raw_pair x)))
near x h = let k = raw_squares x h in record { is = refl; low = omega arith; high = omega arith }

pub pair_to_length-requires : goal.pair_to_length-requires
pair_to_length-requires c =
    let b = c.before.before.before.before in
    let given : PairGiven (raw_pair b.args.x) = record {
      cosine_le = (c_holds c).size;
      sine_le = omega (arith, (s_holds c.before).size);
      near = near b.args.x b.requires;
    } in
    rw ((c_holds c).value, (s_holds c.before).value) given

pub returns : goal.returns
unfolding pair_of_parts
returns c =
    search rules
    ∙ rw ((c_holds c.before).value, (s_holds c.before.before).value) at c.pair_to_length.ensures
