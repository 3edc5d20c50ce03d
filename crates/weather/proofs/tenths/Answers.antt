-- `weather::tenths` meets its contract: the product by 2^30 is exact, its whole part is what the law asks.
use Rattle.std.proofs.Common.{◌≡◌, ◌*◌, ◌^◌, true, not, T, pos, ◌*ℤ◌, sym, ◌∙◌, arith, rules}
use lib.Ieee.{Float, nan, inf, fin, binary32, binary64, fits, is_nan, of_bits}
use lib.Ieee.Fits.{and_i, fits_widens}
use Rattle.words.specs.Holds.{Holds, bits, ◌*ʷ◌, got, lit, mul, mul_ok}
use Rattle.laws.specs.Ranges.{true_not_false}
use Rattle.rules.specs.Floats.{finite}
use Rattle.laws.specs.Tenths.{parts, tenths_by_parts}
use Rattle.weather.proofs.tenths.Goals as goal

no_nan : (x : Float) → finite x ≡ true → T (not (is_nan x))
unfolding finite is_nan
no_nan nan e = true_not_false (sym e)
no_nan (inf s) e = tt
no_nan (fin s m e) h = tt

parts_hold : (c : goal.After-truncating_f64_to_i64)
    → Holds (bits c.truncating_f64_to_i64.result) (parts c.args.x) (2 ^ 41)
unfolding of_bits
parts_hold c =
    got c.truncating_f64_to_i64.ensures
    (omega (arith, (tenths_by_parts c.args.x c.type_inv.x c.requires).size)) tt

ten_parts_hold : (c : goal.After-truncating_f64_to_i64)
    → Holds (10 *ʷ bits c.truncating_f64_to_i64.result) (pos 10 *ℤ parts c.args.x) (10 * 2 ^ 41)
ten_parts_hold c = mul (lit 10 tt) (parts_hold c) tt

pub returns : goal.returns
unfolding of_bits
returns c =
    let f : T (fits binary32 c.args.x) = search rules in
    let t = tenths_by_parts c.args.x f c.requires in
    let held : Holds (bits c.truncating_f64_to_i64.result) (parts c.args.x) (2 ^ 41) =
    got c.truncating_f64_to_i64.ensures (omega (arith, t.size)) tt in
    let ten : Holds (10 *ʷ bits c.truncating_f64_to_i64.result) (pos 10 *ℤ parts c.args.x) (10 * 2 ^ 41) =
    mul (lit 10 tt) held tt in
    search rules ∙ rw ten.value at c.rnd_by_unit.ensures ∙ t.is

pub float_to_float-x : goal.float_to_float-x
float_to_float-x c =
    let x = c.args.x in
    and_i (fits binary64 x) (not (is_nan x)) (fits_widens x c.type_inv.x) (no_nan x c.requires.finite)

pub truncating_f64_to_i64-requires : goal.truncating_f64_to_i64-requires
unfolding of_bits
truncating_f64_to_i64-requires c =
    let t = tenths_by_parts c.args.x c.type_inv.x c.requires in
    record { lower_bound = t.above; upper_bound = t.below }

pub overflow_mul-truncating_f64_to_i64 : goal.overflow_mul-truncating_f64_to_i64
overflow_mul-truncating_f64_to_i64 c = mul_ok (lit 10 tt) (parts_hold c) tt

pub rnd_by_unit-requires : goal.rnd_by_unit-requires
rnd_by_unit-requires c = rw (ten_parts_hold c).value (omega (arith, (ten_parts_hold c).size))
