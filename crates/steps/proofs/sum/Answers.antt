-- `steps::sum` meets its contract.
use Prim.Native.Nat.{◌+◌, ◌≤◌, ◌^◌}
use lib.IntN.{ℤ, nat_abs, ◌+ℤ◌}
use Rattle.words.specs.Holds.{Holds, bits, ◌+ʷ◌, arg, add, add_ok}
use Rattle.steps.proofs.sum.Goals as goal

part_holds : (z : ℤ) → nat_abs z ≤ 2 ^ 60 → Holds (bits z) z (2 ^ 60)
part_holds z h = arg z h tt

sum_holds : (y z : ℤ) → nat_abs y ≤ 2 ^ 60 → nat_abs z ≤ 2 ^ 60 → Holds (bits y +ʷ bits z) (y +ℤ z) (2 ^ 60 + 2 ^ 60)
sum_holds y z h k = add (part_holds y h) (part_holds z k) tt

pub returns : goal.returns
returns c =
    let start = c.before.before.before.before.before.before.before.before.before.before.before.before in
    let v = start.args.v in
    let a = start.args.a in
    rw (
      (sum_holds v.x a.x start.requires.direction_fits.x start.requires.aberration_fits.x).value,
      (sum_holds v.y a.y start.requires.direction_fits.y start.requires.aberration_fits.y).value,
      (sum_holds v.z a.z start.requires.direction_fits.z start.requires.aberration_fits.z).value,
    )

pub overflow_add-result : goal.overflow_add-result
overflow_add-result c =
    let start = c.before.before.before.before in
    add_ok (part_holds start.args.v.x start.requires.direction_fits.x) (part_holds start.args.a.x start.requires.aberration_fits.x) tt

pub overflow_add-result-2 : goal.overflow_add-result-2
overflow_add-result-2 c =
    let start = c.before.before.before.before.before.before.before.before in
    add_ok (part_holds start.args.v.y start.requires.direction_fits.y) (part_holds start.args.a.y start.requires.aberration_fits.y) tt

pub overflow_add-result-3 : goal.overflow_add-result-3
overflow_add-result-3 c =
    let start = c.before.before.before.before.before.before.before.before.before.before.before.before in
    add_ok (part_holds start.args.v.z start.requires.direction_fits.z) (part_holds start.args.a.z start.requires.aberration_fits.z) tt
