-- `length::parts_to` meets its contract.
use Prim.Native.Nat.{◌≤◌, ◌^◌}
use mathlib.Core.Path.{◌∙◌}
use native.Mathlib.Omega.{arith}
use lib.IntN.{ℤ, pos, nat_abs}
use lib.Signed.{◌<ℤ◌}
use Rattle.rules.specs.declared.Direction.{Direction}
use Rattle.rules.specs.Length.{squares, root, to_length}
use Rattle.laws.specs.Root.{root_le}
use Rattle.laws.specs.Directions.{PartsLe, parts_le}
use Rattle.words.specs.Fits.{held64}
use Rattle.words.specs.Holds.{Holds, bits, arg, got}
use Rattle.length.specs.Given.{PartFits}
use Rattle.length.proofs.parts_to.Goals as goal
use Rattle.length.proofs.parts_to.Lts as lts
use Rattle.length.proofs.parts_to.Tie as tie
use Rattle.length.proofs.parts_to.Reads as reads

module _ (c : lts.Start tie.the-claims reads.Pre reads.Post) where
  abbrev v : Direction
  v = c.args.v

  abbrev l : ℤ
  l = pos (root (squares v))

  length_le : nat_abs l ≤ 2 ^ 32
  length_le = root_le (squares v) (2 ^ 32) (omega (arith, c.requires.fits)) (omega (arith, c.requires.fits))

  length_pos : pos 0 <ℤ l
  length_pos = rw c.requires.length at c.requires.length_pos

  parts_small : PartsLe (2 ^ 32) v
  parts_small = parts_le v (2 ^ 32) (omega (arith, c.requires.fits))

  length_holds : Holds (bits c.args.l) l (2 ^ 32)
  length_holds = got c.requires.length length_le tt

  x_holds : Holds (bits v.x) v.x (2 ^ 32)
  x_holds = arg v.x parts_small.x tt

  y_holds : Holds (bits v.y) v.y (2 ^ 32)
  y_holds = arg v.y parts_small.y tt

  z_holds : Holds (bits v.z) v.z (2 ^ 32)
  z_holds = arg v.z parts_small.z tt

  fits : (part : ℤ) → nat_abs part ≤ 2 ^ 32 → PartFits part l
  fits part h = record { part_le = h; length_pos = length_pos; length_le = length_le }

pub part_to-x-requires : goal.part_to-x-requires
part_to-x-requires c =
    let b = c.before.before in
    rw ((x_holds b).value, (length_holds b).value) (fits b (v b).x (x_holds b).size)

pub part_to-y-requires : goal.part_to-y-requires
part_to-y-requires c =
    let b = c.before.before.before.before in
    rw ((y_holds b).value, (length_holds b).value) (fits b (v b).y (y_holds b).size)

pub part_to-z-requires : goal.part_to-z-requires
part_to-z-requires c =
    let b = c.before.before.before.before.before.before in
    rw ((z_holds b).value, (length_holds b).value) (fits b (v b).z (z_holds b).size)

pub returns : goal.returns
unfolding to_length
returns c =
    let b = c.before.before.before.before.before.before in
    let first = c.before.before.before.before.part_to-x in
    let second = c.before.before.part_to-y in
    let third = c.part_to-z in
    let x-is = held64 first.result first.type_inv ∙ rw ((x_holds b).value, (length_holds b).value) at first.ensures in
    let y-is =
    held64 second.result second.type_inv ∙ rw ((y_holds b).value, (length_holds b).value) at second.ensures in
    let z_is = held64 third.result third.type_inv ∙ rw ((z_holds b).value, (length_holds b).value) at third.ensures in
    λ i. record { x = x-is i; y = y-is i; z = z_is i }
