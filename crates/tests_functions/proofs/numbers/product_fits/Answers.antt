-- `tests_functions::numbers::product_fits` meets its contract.
use mathlib.Core.Path.{◌≡◌, sym, ap, ◌∙◌}
use mathlib.Core.Bool.{true, false}
use Prim.Native.Nat.{ℕ, ◌+◌, ◌/◌, ◌≤◌, ◌^◌}
use native.Mathlib.Omega.{arith}
use native.Mathlib.Nat.{div-le_self}
use lib.Dec.{lt→ltb}
use lib.IntN.{pos, neg_ℤ, nat_abs, +ℤ_idl}
use lib.Signed.{quot_z, ◌<ℤ◌}
use mir.Facts.{to_z-of_z}
use Rattle.integers.specs.Quotient.{abs_quot}
use Rattle.words.specs.Holds.{Holds, bits, ◌/ʷ◌, ◌+ʷ◌, arg, got, lit, add, add_ok, sub, sub_ok, div, div_ok}
use Rattle.rules.specs.Units.{+◌, between, within}
use Rattle.laws.specs.Units.{positive, positive_le, within_le}
use Rattle.tests_functions.specs.Numbers.{product_tried}
use Rattle.tests_functions.proofs.numbers.product_fits.Goals as goal
use Rattle.tests_functions.proofs.numbers.product_fits.Goals.{After-size_of, Else-not-is_between, Else-not-is_between-2, Else-not-is_between-3, Start}
use Rattle.tests_functions.proofs.numbers.product_fits.Lts as lts
use Rattle.tests_functions.proofs.numbers.product_fits.Reads as reads
use Rattle.tests_functions.proofs.numbers.product_fits.Tie as tie

-- ---- what the three tests say

d_tested : (c : lts.After-is_between tie.the-claims reads.Pre reads.Post) → c.is_between.result ≡ between (+ 1) (pos (2 ^ 42)) c.args.d
d_tested c = rw (to_z-of_z c.ranges.d) at c.is_between.ensures

pub returns-then-not-is_between : goal.returns-then-not-is_between
unfolding product_tried
returns-then-not-is_between c =
    let out : between (+ 1) (pos (2 ^ 42)) c.args.d ≡ false =
    sym (d_tested c.before) ∙ c.if-not-is_between.true in
    simp out

d_in : (c : Else-not-is_between) → between (+ 1) (pos (2 ^ 42)) c.args.d ≡ true
d_in c = sym (d_tested c.before) ∙ c.if-not-is_between.false

a_tested : (c : lts.After-is_between2 tie.the-claims reads.Pre reads.Post) → c.is_between-2.result ≡ within (2 ^ 42) c.args.a
unfolding within
a_tested c = rw (to_z-of_z c.ranges.a) at c.is_between-2.ensures

pub returns-then-not-is_between-2 : goal.returns-then-not-is_between-2
unfolding product_tried
returns-then-not-is_between-2 c =
    let out = sym (a_tested c.before) ∙ c.if-not-is_between-2.true in
    simp (d_in c.before.before, out)

a_in : (c : Else-not-is_between-2) → within (2 ^ 42) c.args.a ≡ true
a_in c = sym (a_tested c.before) ∙ c.if-not-is_between-2.false

b_tested : (c : lts.After-is_between3 tie.the-claims reads.Pre reads.Post)
    → c.is_between-3.result ≡ within (2 ^ 60) c.args.b
unfolding within
b_tested c = rw (to_z-of_z c.ranges.b) at c.is_between-3.ensures

pub returns-then-not-is_between-3 : goal.returns-then-not-is_between-3
unfolding product_tried
returns-then-not-is_between-3 c =
    let out = sym (b_tested c.before) ∙ c.if-not-is_between-3.true in
    simp (d_in c.before.before.before.before, a_in c.before.before, out)

b_in : (c : Else-not-is_between-3) → within (2 ^ 60) c.args.b ≡ true
b_in c = sym (b_tested c.before) ∙ c.if-not-is_between-3.false

-- ---- the most that b may be

abbrev start : Else-not-is_between-3 → Start
start c = c.before.before.before.before.before.before

d_pos : (c : Else-not-is_between-3) → pos 0 <ℤ (start c).args.d
d_pos c = positive (2 ^ 42) (start c).args.d (d_in c.before.before.before.before)

a_holds : (c : Else-not-is_between-3) → Holds (bits (start c).args.a) (start c).args.a (2 ^ 42)
a_holds c = arg (start c).args.a (within_le (2 ^ 42) (start c).args.a (a_in c.before.before)) tt

d_holds : (c : Else-not-is_between-3) → Holds (bits (start c).args.d) (start c).args.d (2 ^ 42)
d_holds c =
    arg (start c).args.d (positive_le (2 ^ 42) (start c).args.d (d_in c.before.before.before.before)) tt

pub nonzero_div-a : goal.nonzero_div-a
nonzero_div-a c = div_ok (a_holds c) (d_holds c) (d_pos c) tt

quotient_holds : (c : Else-not-is_between-3)
    → Holds (bits (start c).args.a /ʷ bits (start c).args.d) (quot_z (start c).args.a (start c).args.d) (2 ^ 42)
quotient_holds c = div (a_holds c) (d_holds c) (d_pos c) tt

pub size_of-requires : goal.size_of-requires
size_of-requires c = rw (quotient_holds c).value (omega (arith, (quotient_holds c).size))

abbrev times : Start → ℕ
times c = nat_abs c.args.a / nat_abs c.args.d

times_le : (c : Else-not-is_between-3) → times (start c) ≤ 2 ^ 42
times_le c = omega (arith, (a_holds c).size, div-le_self (nat_abs (start c).args.a) (nat_abs (start c).args.d))

times_holds : (c : After-size_of) → Holds (bits c.size_of.result) (pos (times (start c.before))) (2 ^ 42)
times_holds c =
    got (rw (quotient_holds c.before).value at c.size_of.ensures
    ∙ ap pos (abs_quot (start c.before).args.a (start c.before).args.d)) (times_le c.before) tt

pub overflow_add-most : goal.overflow_add-most
overflow_add-most c = add_ok (times_holds c) (lit 1 tt) tt

more_holds : (c : After-size_of)
    → Holds (bits c.size_of.result +ʷ 1) (pos (times (start c.before) + 1)) (2 ^ 42 + 1)
more_holds c = add (times_holds c) (lit 1 tt) tt

more_pos : (c : After-size_of) → pos 0 <ℤ pos (times (start c.before) + 1)
more_pos c = record { lt = lt→ltb 0 (times (start c.before) + 1) (omega arith) }

pub nonzero_div-most : goal.nonzero_div-most
nonzero_div-most c = div_ok (lit (2 ^ 61) tt) (more_holds c) (more_pos c) tt

most_holds : (c : After-size_of)
    → Holds (2 ^ 61 /ʷ (bits c.size_of.result +ʷ 1)) (pos (2 ^ 61 / (times (start c.before) + 1))) (2 ^ 61)
most_holds c = div (lit (2 ^ 61) tt) (more_holds c) (more_pos c) tt

pub overflow_sub-most : goal.overflow_sub-most
overflow_sub-most c = sub_ok (lit 0 tt) (most_holds c) tt

pub returns : goal.returns
unfolding product_tried within
returns c =
    let past = c.before in
    let most = 2 ^ 61 / (times (start past.before) + 1) in
    let is = rw (
      (sub (lit 0 tt) (most_holds past) tt).value,
      (most_holds past).value,
      to_z-of_z (start past.before).ranges.b,
      +ℤ_idl (neg_ℤ (pos most)),
    )
    at c.is_between-4.ensures in
    let else = past.before in
    simp (d_in else.before.before.before.before, a_in else.before.before, b_in else) is
