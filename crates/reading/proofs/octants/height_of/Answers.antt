-- `reading::octants::height_of` meets its contract.
use Prim.Native.Nat.{ℕ, ◌+◌, ◌*◌, ◌-◌}
use mathlib.Core.Path.{◌≡◌}
use mathlib.Core.Bool.{true, false}
use native.Mathlib.Omega.{arith}
use lib.Dec.{le→leb}
use lib.IntN.{ℤ, pos, ◌+ℤ◌, ◌*ℤ◌}
use lib.Signed.{lt_z}
use Rattle.integers.specs.Size.{square_abs}
use Rattle.rules.specs.Units.{unit, circle, half}
use Rattle.rules.specs.declared.Direction.{Direction}
use Rattle.rules.specs.Length.{root, square}
use Rattle.rules.specs.Reading as rule
use Rattle.rules.specs.Heights.{as_height, height}
use Rattle.laws.specs.UpTo.{up_to_le}
use Rattle.laws.specs.Heights.{HeightGiven}
use Rattle.laws.specs.ReadingRange.{angle_of_range}
use Rattle.words.specs.Holds.{Holds, bits, ◌+ʷ◌, ◌*ʷ◌, arg, got, lit, add, add_ok, sub, sub_ok, mul, mul_ok}
use Rattle.reading.proofs.octants.height_of.Goals as goal

-- ---- the root of x² + y²

abbrev sum : Direction → ℕ
sum v = square v.x + square v.y

abbrev angle : Direction → ℤ
angle v = rule.angle_of (pos (root (sum v))) v.z

squares_is : (x y : ℤ) → x *ℤ x +ℤ y *ℤ y ≡ pos (square x + square y)
unfolding square
squares_is x y = rw (square_abs x, square_abs y)

module _ (v : Direction) (g : HeightGiven v) where
  x_holds : Holds (bits v.x) v.x (unit + 1)
  x_holds = arg v.x g.x_le tt

  y_holds : Holds (bits v.y) v.y (unit + 1)
  y_holds = arg v.y g.y_le tt

  z_holds : Holds (bits v.z) v.z (unit + 1)
  z_holds = arg v.z g.z_le tt

  squares_hold : Holds (bits v.x *ʷ bits v.x +ʷ bits v.y *ʷ bits v.y) (v.x *ℤ v.x +ℤ v.y *ℤ v.y)
      ((unit + 1) * (unit + 1) + (unit + 1) * (unit + 1))
  squares_hold = add (mul x_holds x_holds tt) (mul y_holds y_holds tt) tt

  root_holds : (r : ℤ) → r ≡ pos (root (sum v)) → Holds (bits r) (pos (root (sum v))) (unit + 1)
  root_holds r e = got e g.root_le tt

  -- ---- the reading

  angle_holds : (a : ℤ) → a ≡ angle v → Holds (bits a) (angle v) (circle - 1)
  angle_holds a e = got e (up_to_le (angle v) (circle - 1) (angle_of_range (pos (root (sum v))) v.z)) tt

pub returns-then-a-gt-HALF : goal.returns-then-a-gt-HALF
unfolding height as_height
returns-then-a-gt-HALF c =
    let v = c.args.v in
    let g : HeightGiven v = c.requires in
    let r = root_holds v g c.whole_root.result (rw ((squares_hold v g).value, squares_is v.x v.y) at c.whole_root.ensures) in
    let a = angle_holds v g c.angle_of-a.result (rw (r.value, (z_holds v g).value) at c.angle_of-a.ensures) in
    let t : lt_z (pos half) (angle v) ≡ true = rw a.value at c.if-a-gt-HALF.true in
    rw t (sub a (lit circle tt) tt).value

pub returns-else-a-gt-HALF : goal.returns-else-a-gt-HALF
unfolding height as_height
returns-else-a-gt-HALF c =
    let v = c.args.v in
    let g : HeightGiven v = c.requires in
    let r = root_holds v g c.whole_root.result (rw ((squares_hold v g).value, squares_is v.x v.y) at c.whole_root.ensures) in
    let a = angle_holds v g c.angle_of-a.result (rw (r.value, (z_holds v g).value) at c.angle_of-a.ensures) in
    let t : lt_z (pos half) (angle v) ≡ false = rw a.value at c.if-a-gt-HALF.false in
    rw t a.value

-- ---- what each operation and call asks

pub overflow_mul-v : goal.overflow_mul-v
overflow_mul-v c = let h = x_holds c.args.v c.requires in mul_ok h h tt

pub overflow_mul-v-2 : goal.overflow_mul-v-2
overflow_mul-v-2 c = let h = y_holds c.args.v c.requires in mul_ok h h tt

pub overflow_add-v : goal.overflow_add-v
overflow_add-v c =
    let h = x_holds c.args.v c.requires in
    let k = y_holds c.args.v c.requires in
    add_ok (mul h h tt) (mul k k tt) tt

pub whole_root-requires : goal.whole_root-requires
whole_root-requires c =
    let v = c.args.v in
    rw ((squares_hold v c.requires).value, squares_is v.x v.y) (record { le = le→leb 0 (sum v) (omega arith) })

pub angle_of-a-requires : goal.angle_of-a-requires
angle_of-a-requires c =
    let v = c.args.v in
    let g : HeightGiven v = c.requires in
    let r = root_holds v g c.whole_root.result (rw ((squares_hold v g).value, squares_is v.x v.y) at c.whole_root.ensures) in
    rw (r.value, (z_holds v g).value)
    (record { h_le = omega (arith, r.size); v_le = omega (arith, (z_holds v g).size); some = g.some })

pub overflow_sub-result : goal.overflow_sub-result
overflow_sub-result c =
    let v = c.args.v in
    let g : HeightGiven v = c.requires in
    let r = root_holds v g c.whole_root.result (rw ((squares_hold v g).value, squares_is v.x v.y) at c.whole_root.ensures) in
    let a = angle_holds v g c.angle_of-a.result (rw (r.value, (z_holds v g).value) at c.angle_of-a.ensures) in
    sub_ok a (lit circle tt) tt
