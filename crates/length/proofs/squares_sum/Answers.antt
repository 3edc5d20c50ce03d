-- `length::squares_sum` meets its contract: each square, and each sum of squares, is at most the whole sum.
use Prim.Native.Nat.{ℕ, ◌*◌, ◌-◌, ◌≤◌, ◌<◌, ◌^◌}
use mathlib.Core.Path.{◌∙◌}
use native.Mathlib.Omega.{arith}
use lib.IntN.{ℤ, nat_abs, ◌+ℤ◌, ◌*ℤ◌}
use Rattle.integers.specs.Size.{square_abs}
use Rattle.integers.specs.Square.{le_of_square_le, squares_of_pos}
use Rattle.rules.specs.Length.{square, squares}
use Rattle.words.specs.Holds.{Holds, bits, ◌+ʷ◌, ◌*ʷ◌, arg, add_to, add_to_ok, mul_to, mul_to_ok}
use Rattle.length.proofs.squares_sum.Goals as goal
use Rattle.length.proofs.squares_sum.Lts as lts
use Rattle.length.proofs.squares_sum.Reads as reads

-- the most that the sum can be
abbrev most : ℕ
most = 2 ^ 63 - 1

part_le : (a n : ℕ) → a * a ≤ n → n < 2 ^ 63 → a ≤ 2 ^ 32
part_le a n h k = le_of_square_le a (2 ^ 32) (omega arith)

-- ---- what the words hold

module _ (c : lts.Start reads.Pre reads.Post) where
  abbrev x : ℤ
  x = c.args.v.x

  abbrev y : ℤ
  y = c.args.v.y

  abbrev z : ℤ
  z = c.args.v.z

  x_holds : Holds (bits x) x (2 ^ 32)
  unfolding squares square
  x_holds = arg x (part_le (nat_abs x) (squares c.args.v) (omega arith) c.requires) tt

  y_holds : Holds (bits y) y (2 ^ 32)
  unfolding squares square
  y_holds = arg y (part_le (nat_abs y) (squares c.args.v) (omega arith) c.requires) tt

  z_holds : Holds (bits z) z (2 ^ 32)
  unfolding squares square
  z_holds = arg z (part_le (nat_abs z) (squares c.args.v) (omega arith) c.requires) tt

  x_square_le : nat_abs (x *ℤ x) ≤ most
  unfolding squares square
  x_square_le = rw (square_abs x) (omega (arith, c.requires))

  y_square_le : nat_abs (y *ℤ y) ≤ most
  unfolding squares square
  y_square_le = rw (square_abs y) (omega (arith, c.requires))

  z_square_le : nat_abs (z *ℤ z) ≤ most
  unfolding squares square
  z_square_le = rw (square_abs z) (omega (arith, c.requires))

  two_le : nat_abs (x *ℤ x +ℤ y *ℤ y) ≤ most
  unfolding squares square
  two_le = rw (square_abs x, square_abs y) (omega (arith, c.requires))

  all_le : nat_abs (x *ℤ x +ℤ y *ℤ y +ℤ z *ℤ z) ≤ most
  unfolding squares square
  all_le = rw (squares_of_pos x y z) (omega (arith, c.requires))

  x_square_holds : Holds (bits x *ʷ bits x) (x *ℤ x) most
  x_square_holds = mul_to x_holds x_holds most x_square_le tt

  y_square_holds : Holds (bits y *ʷ bits y) (y *ℤ y) most
  y_square_holds = mul_to y_holds y_holds most y_square_le tt

  z_square_holds : Holds (bits z *ʷ bits z) (z *ℤ z) most
  z_square_holds = mul_to z_holds z_holds most z_square_le tt

  two_hold : Holds (bits x *ʷ bits x +ʷ bits y *ʷ bits y) (x *ℤ x +ℤ y *ℤ y) most
  two_hold = add_to x_square_holds y_square_holds most two_le tt

-- ---- the needs

pub overflow_mul-result : goal.overflow_mul-result
overflow_mul-result c = let b = c.before.before in mul_to_ok (x_holds b.before) (x_holds b.before) most (x_square_le b.before) tt

pub overflow_mul-result-2 : goal.overflow_mul-result-2
overflow_mul-result-2 c =
    let b = c.before.before.before.before in
    mul_to_ok (y_holds b.before) (y_holds b.before) most (y_square_le b.before) tt

pub overflow_add-result : goal.overflow_add-result
overflow_add-result c =
    let b = c.before.before.before.before in
    add_to_ok (x_square_holds b.before) (y_square_holds b.before) most (two_le b.before) tt

pub overflow_mul-result-3 : goal.overflow_mul-result-3
overflow_mul-result-3 c =
    let b = c.before.before.before.before.before.before in
    mul_to_ok (z_holds b) (z_holds b) most (z_square_le b) tt

pub overflow_add-result-2 : goal.overflow_add-result-2
overflow_add-result-2 c =
    let b = c.before.before.before.before.before.before in
    add_to_ok (two_hold b) (z_square_holds b) most (all_le b) tt

pub returns : goal.returns
unfolding squares square
returns c =
    let b = c.before.before.before.before.before.before in
    (add_to (two_hold b) (z_square_holds b) most (all_le b) tt).value ∙ squares_of_pos (x b) (y b) (z b)
