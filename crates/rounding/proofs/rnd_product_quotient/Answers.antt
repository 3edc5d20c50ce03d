-- `rounding::rnd_product_quotient` meets its contract: what each word holds, with its bound, and the law of carried
-- products.
use Prim.Native.Nat.{ℕ, ◌+◌, ◌*◌, ◌-◌, ◌≤◌, ◌^◌}
use mathlib.Core.Path.{◌∙◌}
use native.Mathlib.Omega.{arith}
use lib.IntN.{pos, nat_abs, ◌+ℤ◌, ◌*ℤ◌}
use lib.Signed.{quot_z, rem_z, lt_z_yes}
use Rattle.integers.specs.Quotient.{size_pos}
use Rattle.rules.specs.Rounding.{rnd}
use Rattle.laws.specs.Rounding.{rnd_le}
use Rattle.laws.specs.Product.{digit, high, middle, low, quotients, high_quotient_le, quotients_le, carried_le}
use Rattle.laws.specs.Product.{carried_is}
use Rattle.words.specs.Holds.{Holds, bits, ◌+ʷ◌, ◌*ʷ◌, ◌/ʷ◌, ◌%ʷ◌, arg, got, lit, bounded, add, add_ok, mul, mul_ok}
use Rattle.words.specs.Holds.{add_to, add_to_ok, div, div_ok, div_lit, rem}
use Rattle.rounding.proofs.rnd_product_quotient.Goals as goal

-- ---- the words

abbrev high_bits : goal.Start → ℕ
high_bits c = bits c.args.a *ʷ (bits c.args.b /ʷ 2 ^ 40)

abbrev middle_bits : goal.Start → ℕ
middle_bits c =
    (high_bits c %ʷ bits c.args.d) *ʷ digit +ʷ bits c.args.a *ʷ ((bits c.args.b /ʷ digit) %ʷ digit)

abbrev low_bits : goal.Start → ℕ
low_bits c = (middle_bits c %ʷ bits c.args.d) *ʷ digit +ʷ bits c.args.a *ʷ (bits c.args.b %ʷ digit)

abbrev quotients_bits : goal.Start → ℕ
quotients_bits c = (high_bits c /ʷ bits c.args.d) *ʷ digit +ʷ (middle_bits c /ʷ bits c.args.d)

-- the most that a carried digit can be
abbrev most : ℕ
most = (2 ^ 42 - 1) * digit + 2 ^ 42 * (digit - 1)

-- ---- what they hold

a_holds : (c : goal.Start) → Holds (bits c.args.a) c.args.a (2 ^ 42)
a_holds c = arg c.args.a c.requires.a_le tt

b_holds : (c : goal.Start) → Holds (bits c.args.b) c.args.b (2 ^ 60)
b_holds c = arg c.args.b c.requires.b_le tt

d_holds : (c : goal.Start) → Holds (bits c.args.d) c.args.d (2 ^ 42)
d_holds c = arg c.args.d c.requires.divisor_le tt

digit_holds : Holds digit (pos digit) digit
digit_holds = lit digit tt

high_holds : (c : goal.Start) → Holds (high_bits c) (high c.args.a c.args.b) (2 ^ 62)
high_holds c = mul (a_holds c) (div_lit (2 ^ 40) (b_holds c) tt tt tt) tt

second_holds : (c : goal.Start)
    → Holds ((bits c.args.b /ʷ digit) %ʷ digit) (rem_z (quot_z c.args.b (pos digit)) (pos digit)) (digit - 1)
second_holds c = rem (div (b_holds c) digit_holds (lt_z_yes tt) tt) digit_holds (lt_z_yes tt) tt

high_rest_holds : (c : goal.Start)
    → Holds (high_bits c %ʷ bits c.args.d) (rem_z (high c.args.a c.args.b) c.args.d) (2 ^ 42 - 1)
high_rest_holds c = rem (high_holds c) (d_holds c) c.requires.divisor_pos tt

middle_holds : (c : goal.Start) → Holds (middle_bits c) (middle c.args.a c.args.b c.args.d) most
middle_holds c = add (mul (high_rest_holds c) digit_holds tt) (mul (a_holds c) (second_holds c) tt) tt

last_holds : (c : goal.Start) → Holds (bits c.args.b %ʷ digit) (rem_z c.args.b (pos digit)) (digit - 1)
last_holds c = rem (b_holds c) digit_holds (lt_z_yes tt) tt

middle_rest_holds : (c : goal.Start)
    → Holds (middle_bits c %ʷ bits c.args.d) (rem_z (middle c.args.a c.args.b c.args.d) c.args.d)
    (2 ^ 42 - 1)
middle_rest_holds c = rem (middle_holds c) (d_holds c) c.requires.divisor_pos tt

low_holds : (c : goal.Start) → Holds (low_bits c) (low c.args.a c.args.b c.args.d) most
low_holds c = add (mul (middle_rest_holds c) digit_holds tt) (mul (a_holds c) (last_holds c) tt) tt

high_quotient_holds : (c : goal.Start)
    → Holds (high_bits c /ʷ bits c.args.d) (quot_z (high c.args.a c.args.b) c.args.d) (2 ^ 41)
high_quotient_holds c =
    bounded (2 ^ 41) (div (high_holds c) (d_holds c) c.requires.divisor_pos tt)
    (omega (arith, high_quotient_le c.args.a c.args.b c.args.d c.requires))

middle_quotient_holds : (c : goal.Start)
    → Holds (middle_bits c /ʷ bits c.args.d)
    (quot_z (middle c.args.a c.args.b c.args.d) c.args.d) most
middle_quotient_holds c = div (middle_holds c) (d_holds c) c.requires.divisor_pos tt

quotients_small : (c : goal.Start) → nat_abs (quotients c.args.a c.args.b c.args.d) ≤ 2 ^ 41
quotients_small c = omega (arith, quotients_le c.args.a c.args.b c.args.d c.requires)

quotients_hold : (c : goal.Start) → Holds (quotients_bits c) (quotients c.args.a c.args.b c.args.d) (2 ^ 41)
quotients_hold c =
    add_to (mul (high_quotient_holds c) digit_holds tt) (middle_quotient_holds c) (2 ^ 41) (quotients_small c) tt

rounded_holds : (c : goal.After-rnd_quotient)
    → Holds (bits c.rnd_quotient.result)
    (rnd (low c.before.args.a c.before.args.b c.before.args.d) (nat_abs c.before.args.d)) most
rounded_holds c =
    let l = low c.before.args.a c.before.args.b c.before.args.d in
    let d = c.before.args.d in
    got (rw ((low_holds c.before).value, (d_holds c.before).value) at c.rnd_quotient.ensures)
    (omega (arith, (low_holds c.before).size, rnd_le l (nat_abs d) (size_pos d c.before.requires.divisor_pos))) tt

result_le : (c : goal.Start)
    → nat_abs (quotients c.args.a c.args.b c.args.d *ℤ pos digit
    +ℤ rnd (low c.args.a c.args.b c.args.d) (nat_abs c.args.d)) ≤ 2 ^ 61
result_le c =
    rw (carried_is c.args.a c.args.b c.args.d c.requires.divisor_pos)
    (carried_le c.args.a c.args.b c.args.d c.requires)

-- ---- the needs

pub nonzero_div-high : goal.nonzero_div-high
nonzero_div-high c = div_ok (b_holds c) (lit (2 ^ 40) tt) (lt_z_yes tt) tt

pub overflow_mul-high : goal.overflow_mul-high
overflow_mul-high c = mul_ok (a_holds c) (div_lit (2 ^ 40) (b_holds c) tt tt tt) tt

pub nonzero_rem-middle : goal.nonzero_rem-middle
nonzero_rem-middle c = div_ok (high_holds c) (d_holds c) c.requires.divisor_pos tt

pub overflow_mul-middle : goal.overflow_mul-middle
overflow_mul-middle c = mul_ok (high_rest_holds c) digit_holds tt

pub nonzero_div-middle : goal.nonzero_div-middle
nonzero_div-middle c = div_ok (b_holds c) digit_holds (lt_z_yes tt) tt

pub nonzero_rem-middle-2 : goal.nonzero_rem-middle-2
nonzero_rem-middle-2 c = div_ok (div (b_holds c) digit_holds (lt_z_yes tt) tt) digit_holds (lt_z_yes tt) tt

pub overflow_mul-middle-2 : goal.overflow_mul-middle-2
overflow_mul-middle-2 c = mul_ok (a_holds c) (second_holds c) tt

pub overflow_add-middle : goal.overflow_add-middle
overflow_add-middle c = add_ok (mul (high_rest_holds c) digit_holds tt) (mul (a_holds c) (second_holds c) tt) tt

pub nonzero_rem-low : goal.nonzero_rem-low
nonzero_rem-low c = div_ok (middle_holds c) (d_holds c) c.requires.divisor_pos tt

pub overflow_mul-low : goal.overflow_mul-low
overflow_mul-low c = mul_ok (middle_rest_holds c) digit_holds tt

pub nonzero_rem-low-2 : goal.nonzero_rem-low-2
nonzero_rem-low-2 c = nonzero_div-middle c

pub overflow_mul-low-2 : goal.overflow_mul-low-2
overflow_mul-low-2 c = mul_ok (a_holds c) (last_holds c) tt

pub overflow_add-low : goal.overflow_add-low
overflow_add-low c = add_ok (mul (middle_rest_holds c) digit_holds tt) (mul (a_holds c) (last_holds c) tt) tt

pub nonzero_div-result : goal.nonzero_div-result
nonzero_div-result c = nonzero_rem-middle c

pub overflow_mul-result : goal.overflow_mul-result
overflow_mul-result c = mul_ok (high_quotient_holds c) digit_holds tt

pub nonzero_div-result-2 : goal.nonzero_div-result-2
nonzero_div-result-2 c = nonzero_rem-low c

pub overflow_add-result : goal.overflow_add-result
overflow_add-result c =
    add_to_ok (mul (high_quotient_holds c) digit_holds tt) (middle_quotient_holds c) (2 ^ 41) (quotients_small c) tt

pub overflow_mul-result-2 : goal.overflow_mul-result-2
overflow_mul-result-2 c = mul_ok (quotients_hold c) digit_holds tt

pub rnd_quotient-requires : goal.rnd_quotient-requires
rnd_quotient-requires c = rw (d_holds c).value (record { pos_bound = c.requires.divisor_pos; b_bound = omega (arith, c.requires.divisor_le) })

pub overflow_add-result-2 : goal.overflow_add-result-2
overflow_add-result-2 c =
    add_to_ok (mul (quotients_hold c.before) digit_holds tt) (rounded_holds c) (2 ^ 61) (result_le c.before) tt

pub returns : goal.returns
returns c =
    let start = c.before in
    let a = start.args in
    (add_to (mul (quotients_hold start) digit_holds tt) (rounded_holds c) (2 ^ 61) (result_le start) tt).value
    ∙ carried_is a.a a.b a.d start.requires.divisor_pos
