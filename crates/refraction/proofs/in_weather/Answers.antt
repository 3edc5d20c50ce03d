-- `refraction::in_weather` meets its contract: the product is below 2^57.
use mathlib.Core.Path.{◌∙◌}
use Prim.Native.Nat.{◌+◌, ◌*◌}
use native.Mathlib.Omega.{arith}
use lib.Dec.{lit<}
use lib.IntN.{pos, ◌+ℤ◌, ◌*ℤ◌}
use borrow.Author.Rules.{rules}
use Rattle.laws.specs.UpTo.{up_to_le}
use Rattle.words.specs.Holds.{Holds, bits, ◌+ʷ◌, ◌*ʷ◌, arg, lit, add, add_ok, mul, mul_ok}
use Rattle.rules.specs.Refraction.{in_weather}
use Rattle.laws.specs.RefractionArgument.{above_nought}
use Rattle.laws.specs.Refraction.{weather_divisor}
use Rattle.refraction.proofs.in_weather.Goals as goal

lift_holds : (c : goal.Start) → Holds (bits c.args.l) c.args.l 3300000000
lift_holds c = arg c.args.l (up_to_le c.args.l 3300000000 c.requires.lift) tt

pressure_holds : (c : goal.Start) → Holds (bits c.args.p) c.args.p 11000
pressure_holds c = arg c.args.p c.requires.pressure.at_most tt

temperature_holds : (c : goal.Start) → Holds (bits c.args.t) c.args.t 500
temperature_holds c = arg c.args.t c.requires.temperature tt

-- lift and pressure, then the dividend
both_hold : (c : goal.Start)
    → Holds (bits c.args.l *ʷ bits c.args.p) (c.args.l *ℤ c.args.p) (3300000000 * 11000)
both_hold c = mul (lift_holds c) (pressure_holds c) tt

dividend_holds : (c : goal.Start)
    → Holds (bits c.args.l *ʷ bits c.args.p *ʷ 2830) (c.args.l *ℤ c.args.p *ℤ pos 2830)
    (3300000000 * 11000 * 2830)
dividend_holds c = mul (both_hold c) (lit 2830 tt) tt

-- the temperature from absolute nought, then the divisor
warmth_holds : (c : goal.Start) → Holds (2730 +ʷ bits c.args.t) (pos 2730 +ℤ c.args.t) (2730 + 500)
warmth_holds c = add (lit 2730 tt) (temperature_holds c) tt

divisor_holds : (c : goal.Start)
    → Holds (10100 *ʷ (2730 +ʷ bits c.args.t)) (pos 10100 *ℤ (pos 2730 +ℤ c.args.t)) (10100 * (2730 + 500))
divisor_holds c = mul (lit 10100 tt) (warmth_holds c) tt

pub returns : goal.returns
unfolding in_weather
returns c =
    search rules
    ∙ rw ((dividend_holds c.before).value, (divisor_holds c.before).value) at c.rnd_quotient.ensures

pub overflow_mul-l : goal.overflow_mul-l
overflow_mul-l c = mul_ok (lift_holds c) (pressure_holds c) tt

pub overflow_mul-l-2 : goal.overflow_mul-l-2
overflow_mul-l-2 c = mul_ok (both_hold c) (lit 2830 tt) tt

pub overflow_add-t : goal.overflow_add-t
overflow_add-t c = add_ok (lit 2730 tt) (temperature_holds c) tt

pub overflow_mul-t : goal.overflow_mul-t
overflow_mul-t c = mul_ok (lit 10100 tt) (warmth_holds c) tt

pub rnd_quotient-requires : goal.rnd_quotient-requires
rnd_quotient-requires c =
    let d = pos 10100 *ℤ (pos 2730 +ℤ c.args.t) in
    rw (divisor_holds c).value (record {
      pos_bound = above_nought d 22523000 32623000 (lit< tt) (weather_divisor c.args.t c.requires.temperature);
      b_bound = omega (arith, (divisor_holds c).size);
    })
