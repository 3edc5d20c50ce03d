-- `nutation::term_angle` meets its contract: five products, each far within the word, and their sum.
use Prim.Native.Nat.{◌+◌, ◌≤◌, ◌^◌}
use native.Mathlib.Omega.{arith}
use lib.IntN.{ℤ, nat_abs, ◌+ℤ◌, ◌*ℤ◌}
use Rattle.rules.specs.Nutation.{term_angle}
use Rattle.words.specs.Holds.{Holds, bits, ◌+ʷ◌, ◌*ʷ◌, arg, add, add_ok, mul, mul_ok}
use Rattle.nutation.proofs.term_angle.Goals as goal
use Rattle.nutation.proofs.term_angle.Tie as tie
use Rattle.nutation.proofs.term_angle.Lts as lts
use Rattle.nutation.proofs.term_angle.Reads as reads

-- ---- the start, from where each product is formed

abbrev at_moon : lts.After-struct_told2 reads.Pre reads.Post tie.handed_clauses → lts.Start reads.Pre reads.Post tie.handed_clauses
at_moon c = c.before.before.before.before

abbrev at_sun : lts.After-struct_told4 reads.Pre reads.Post tie.handed_clauses → lts.Start reads.Pre reads.Post tie.handed_clauses
at_sun c = at_moon c.before.before.before.before

abbrev at_latitude : lts.After-struct_told6 reads.Pre reads.Post tie.handed_clauses → lts.Start reads.Pre reads.Post tie.handed_clauses
at_latitude c = at_sun c.before.before.before.before

abbrev at_elongation : lts.After-struct_told8 reads.Pre reads.Post tie.handed_clauses → lts.Start reads.Pre reads.Post tie.handed_clauses
at_elongation c = at_latitude c.before.before.before.before

abbrev at_node : goal.After-struct_told-10-1 → lts.Start reads.Pre reads.Post tie.handed_clauses
at_node c = at_elongation c.before.before.before.before

-- ---- what the words hold

multiple : (z : ℤ) → nat_abs z ≤ 2 ^ 7 → Holds (bits z) z (2 ^ 7)
multiple z h = arg z h tt

argument : (z : ℤ) → nat_abs z ≤ 2 ^ 51 → Holds (bits z) z (2 ^ 51)
argument z h = arg z h tt

module _ (c : lts.Start reads.Pre reads.Post tie.handed_clauses) where
  moon_multiple : Holds (bits c.args.m.moon) c.args.m.moon (2 ^ 7)
  moon_multiple = multiple c.args.m.moon (omega (arith, c.requires.term_fits.multiples_le))

  sun_multiple : Holds (bits c.args.m.sun) c.args.m.sun (2 ^ 7)
  sun_multiple = multiple c.args.m.sun (omega (arith, c.requires.term_fits.multiples_le))

  latitude_multiple : Holds (bits c.args.m.latitude) c.args.m.latitude (2 ^ 7)
  latitude_multiple = multiple c.args.m.latitude (omega (arith, c.requires.term_fits.multiples_le))

  elongation_multiple : Holds (bits c.args.m.elongation) c.args.m.elongation (2 ^ 7)
  elongation_multiple = multiple c.args.m.elongation (omega (arith, c.requires.term_fits.multiples_le))

  node_multiple : Holds (bits c.args.m.node) c.args.m.node (2 ^ 7)
  node_multiple = multiple c.args.m.node (omega (arith, c.requires.term_fits.multiples_le))

  moon_argument : Holds (bits c.args.a.moon) c.args.a.moon (2 ^ 51)
  moon_argument = argument c.args.a.moon c.requires.arguments_fit.moon_le

  sun_argument : Holds (bits c.args.a.sun) c.args.a.sun (2 ^ 51)
  sun_argument = argument c.args.a.sun c.requires.arguments_fit.sun_le

  latitude_argument : Holds (bits c.args.a.latitude) c.args.a.latitude (2 ^ 51)
  latitude_argument = argument c.args.a.latitude c.requires.arguments_fit.latitude_le

  elongation_argument : Holds (bits c.args.a.elongation) c.args.a.elongation (2 ^ 51)
  elongation_argument = argument c.args.a.elongation c.requires.arguments_fit.elongation_le

  node_argument : Holds (bits c.args.a.node) c.args.a.node (2 ^ 51)
  node_argument = argument c.args.a.node c.requires.arguments_fit.node_le

  moon_holds : Holds (bits c.args.m.moon *ʷ bits c.args.a.moon) (c.args.m.moon *ℤ c.args.a.moon)
      (2 ^ 58)
  moon_holds = mul moon_multiple moon_argument tt

  two_hold : Holds
      (bits c.args.m.moon *ʷ bits c.args.a.moon +ʷ bits c.args.m.sun *ʷ bits c.args.a.sun)
      (c.args.m.moon *ℤ c.args.a.moon +ℤ c.args.m.sun *ℤ c.args.a.sun) (2 ^ 59)
  two_hold = add moon_holds (mul sun_multiple sun_argument tt) tt

  three_hold : Holds
      (bits c.args.m.moon *ʷ bits c.args.a.moon +ʷ bits c.args.m.sun *ʷ bits c.args.a.sun
      +ʷ bits c.args.m.latitude *ʷ bits c.args.a.latitude)
      (c.args.m.moon *ℤ c.args.a.moon +ℤ c.args.m.sun *ℤ c.args.a.sun
      +ℤ c.args.m.latitude *ℤ c.args.a.latitude) (2 ^ 59 + 2 ^ 58)
  three_hold = add two_hold (mul latitude_multiple latitude_argument tt) tt

  four_hold : Holds
      (bits c.args.m.moon *ʷ bits c.args.a.moon +ʷ bits c.args.m.sun *ʷ bits c.args.a.sun
      +ʷ bits c.args.m.latitude *ʷ bits c.args.a.latitude
      +ʷ bits c.args.m.elongation *ʷ bits c.args.a.elongation)
      (c.args.m.moon *ℤ c.args.a.moon +ℤ c.args.m.sun *ℤ c.args.a.sun
      +ℤ c.args.m.latitude *ℤ c.args.a.latitude +ℤ c.args.m.elongation *ℤ c.args.a.elongation) (2 ^ 60)
  four_hold = add three_hold (mul elongation_multiple elongation_argument tt) tt

-- ---- the needs

pub overflow_mul-moon : goal.overflow_mul-moon
overflow_mul-moon c = mul_ok (moon_multiple (at_moon c.before)) (moon_argument (at_moon c.before)) tt

pub overflow_mul-sun : goal.overflow_mul-sun
overflow_mul-sun c = mul_ok (sun_multiple (at_sun c.before)) (sun_argument (at_sun c.before)) tt

pub overflow_mul-latitude : goal.overflow_mul-latitude
overflow_mul-latitude c = mul_ok (latitude_multiple (at_latitude c.before)) (latitude_argument (at_latitude c.before)) tt

pub overflow_mul-elongation : goal.overflow_mul-elongation
overflow_mul-elongation c = mul_ok (elongation_multiple (at_elongation c.before)) (elongation_argument (at_elongation c.before)) tt

pub overflow_add-result : goal.overflow_add-result
overflow_add-result c =
    let s = at_elongation c.before in
    add_ok (moon_holds s) (mul (sun_multiple s) (sun_argument s) tt) tt

pub overflow_add-result-2 : goal.overflow_add-result-2
overflow_add-result-2 c =
    let s = at_elongation c.before in
    add_ok (two_hold s) (mul (latitude_multiple s) (latitude_argument s) tt) tt

pub overflow_add-result-3 : goal.overflow_add-result-3
overflow_add-result-3 c =
    let s = at_elongation c.before in
    add_ok (three_hold s) (mul (elongation_multiple s) (elongation_argument s) tt) tt

pub overflow_mul-result : goal.overflow_mul-result
overflow_mul-result c = mul_ok (node_multiple (at_node c)) (node_argument (at_node c)) tt

pub overflow_add-result-4 : goal.overflow_add-result-4
overflow_add-result-4 c =
    let s = at_node c in
    add_ok (four_hold s) (mul (node_multiple s) (node_argument s) tt) tt

pub returns : goal.returns
unfolding term_angle
returns c =
    let s = at_node c in
    (add (four_hold s) (mul (node_multiple s) (node_argument s) tt) tt).value
