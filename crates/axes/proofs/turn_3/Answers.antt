-- `axes::turn_3` meets its contract: no part passes 2^30 + 1, so that every product and sum fits.
use Prim.Native.Nat.{ℕ, ◌+◌, ◌*◌}
use mathlib.Core.Path.{◌∙◌}
use native.Mathlib.Omega.{arith}
use lib.IntN.{ℤ, nat_abs, ◌*ℤ◌}
use Rattle.rules.specs.Units.{unit}
use Rattle.rules.specs.Length.{square, pair_squares}
use Rattle.rules.specs.Turning.{turn3}
use Rattle.laws.specs.Directions.{part_le, accepted_parts}
use Rattle.words.specs.Fits.{held64}
use Rattle.words.specs.Holds.{Holds, bits, ◌*ʷ◌, arg, add, add_ok, sub, sub_ok, mul, mul_ok}
use Rattle.axes.proofs.turn_3.Goals as goal
use Rattle.axes.proofs.turn_3.Lts as lts
use Rattle.axes.proofs.turn_3.Tie as tie
use Rattle.axes.proofs.turn_3.Reads as reads

-- the most that a part, and that a product of two, can be
abbrev most : ℕ
most = unit + 1

abbrev product : ℕ
product = most * most

-- ---- what the words hold

module _ (k : lts.Start tie.the-claims reads.Pre reads.Post) where
  abbrev c : ℤ
  c = k.args.p.cosine

  abbrev s : ℤ
  s = k.args.p.sine

  abbrev x : ℤ
  x = k.args.v.x

  abbrev y : ℤ
  y = k.args.v.y

  abbrev z : ℤ
  z = k.args.v.z

  c_holds : Holds (bits c) c most
  unfolding pair_squares square
  c_holds = arg c (part_le (nat_abs c) (pair_squares k.args.p) (omega arith) k.requires.pair) tt

  s_holds : Holds (bits s) s most
  unfolding pair_squares square
  s_holds = arg s (part_le (nat_abs s) (pair_squares k.args.p) (omega arith) k.requires.pair) tt

  x_holds : Holds (bits x) x most
  x_holds = arg x (accepted_parts k.args.v k.requires.direction).x tt

  y_holds : Holds (bits y) y most
  y_holds = arg y (accepted_parts k.args.v k.requires.direction).y tt

  z_holds : Holds (bits z) z most
  z_holds = arg z (accepted_parts k.args.v k.requires.direction).z tt

  cx_holds : Holds (bits c *ʷ bits x) (c *ℤ x) product
  cx_holds = mul c_holds x_holds tt

  sy_holds : Holds (bits s *ʷ bits y) (s *ℤ y) product
  sy_holds = mul s_holds y_holds tt

  sx_holds : Holds (bits s *ʷ bits x) (s *ℤ x) product
  sx_holds = mul s_holds x_holds tt

  cy_holds : Holds (bits c *ʷ bits y) (c *ℤ y) product
  cy_holds = mul c_holds y_holds tt

-- ---- the answer

-- the start, from where the fourth, sixth and eighth field has been read
abbrev start4 : goal.After-struct_told-4-1 → lts.Start tie.the-claims reads.Pre reads.Post
start4 k = k.before.before.before.before.before.before.before.before.before

abbrev start6 : goal.After-struct_told-6-1 → lts.Start tie.the-claims reads.Pre reads.Post
start6 k = k.before.before.before.before.before.before.before.before.before.before.before.before.before.before

abbrev start8 : goal.After-struct_told-8-1 → lts.Start tie.the-claims reads.Pre reads.Post
start8 k = k.before.before.before.before.before.before.before.before.before.before.before.before.before.before.before.before.before.before

pub returns : goal.returns
unfolding turn3
returns k =
    let b = k.before.before.before.before.before.before.before.before.before.before.before.before.before.before.before.before.before.before.before in
    let first = k.rnd_by_unit in
    let second = k.rnd_by_unit-2 in
    let x-is = held64 first.result first.type_inv
    ∙ rw (sub (cx_holds b) (sy_holds b) tt).value at first.ensures in
    let y-is = held64 second.result second.type_inv
    ∙ rw (add (sx_holds b) (cy_holds b) tt).value at second.ensures in
    rw (x-is, y-is, (z_holds b).value)

-- ---- what each operation and call asks

pub overflow_mul-p : goal.overflow_mul-p
overflow_mul-p k = let b = k.before.before.before.before in mul_ok (c_holds b.before) (x_holds b.before) tt

pub overflow_mul-p-2 : goal.overflow_mul-p-2
overflow_mul-p-2 k = mul_ok (s_holds (start4 k)) (y_holds (start4 k)) tt

pub overflow_sub-p : goal.overflow_sub-p
overflow_sub-p k = sub_ok (cx_holds (start4 k)) (sy_holds (start4 k)) tt

pub rnd_by_unit-requires : goal.rnd_by_unit-requires
rnd_by_unit-requires k =
    let sum = sub (cx_holds (start4 k)) (sy_holds (start4 k)) tt in
    rw sum.value (omega (arith, sum.size))

pub overflow_mul-p-3 : goal.overflow_mul-p-3
overflow_mul-p-3 k = mul_ok (s_holds (start6 k)) (x_holds (start6 k)) tt

pub overflow_mul-p-4 : goal.overflow_mul-p-4
overflow_mul-p-4 k = mul_ok (c_holds (start8 k)) (y_holds (start8 k)) tt

pub overflow_add-p : goal.overflow_add-p
overflow_add-p k = add_ok (sx_holds (start8 k)) (cy_holds (start8 k)) tt

pub rnd_by_unit-requires-2 : goal.rnd_by_unit-requires-2
rnd_by_unit-requires-2 k =
    let sum = add (sx_holds (start8 k)) (cy_holds (start8 k)) tt in
    rw sum.value (omega (arith, sum.size))
