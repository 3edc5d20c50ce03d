-- `series::parts::pair_to_length` meets its contract.
use Prim.Native.Nat.{ℕ, ◌+◌, ◌*◌, ◌≤◌, ◌<◌}
use mathlib.Core.Path.{◌≡◌}
use native.Mathlib.Omega.{arith}
use native.Mathlib.Nat.{mul-le-mul}
use lib.Dec.{lt→ltb}
use lib.IntN.{ℤ, pos, nat_abs, ◌+ℤ◌, ◌*ℤ◌}
use Rattle.integers.specs.Size.{square_abs}
use Rattle.rules.specs.Units.{unit}
use Rattle.rules.specs.declared.Pair.{Pair}
use Rattle.rules.specs.Length.{root, square, pair_squares, part_to, pair_to_length}
use Rattle.laws.specs.Root.{root_root, root_le, root_ge}
use Rattle.laws.specs.Length.{le_root, part_to_le}
use Rattle.words.specs.Holds.{Holds, bits, ◌+ʷ◌, ◌*ʷ◌, arg, got, add, add_ok, mul, mul_ok}
use Rattle.length.specs.Given.{PartFits}
use Rattle.series.specs.Given.{PairGiven}
use Rattle.series.proofs.parts.pair_to_length.Goals as goal

abbrev length : Pair → ℕ
length p = root (pair_squares p)

squares_is : (p : Pair) → p.cosine *ℤ p.cosine +ℤ p.sine *ℤ p.sine ≡ pos (pair_squares p)
unfolding pair_squares square
squares_is p = rw (square_abs p.cosine, square_abs p.sine)

module _ (p : Pair) (g : PairGiven p) where
  -- ---- the squares' sum, and its root

  c_holds : Holds (bits p.cosine) p.cosine unit
  c_holds = arg p.cosine g.cosine_le tt

  s_holds : Holds (bits p.sine) p.sine unit
  s_holds = arg p.sine g.sine_le tt

  squares_hold : Holds (bits p.cosine *ʷ bits p.cosine +ʷ bits p.sine *ʷ bits p.sine)
      (p.cosine *ℤ p.cosine +ℤ p.sine *ℤ p.sine) (unit * unit + unit * unit)
  squares_hold = add (mul c_holds c_holds tt) (mul s_holds s_holds tt) tt

  squares_le : pair_squares p ≤ 2 * (unit * unit)
  unfolding pair_squares square
  squares_le = omega (arith, mul-le-mul g.cosine_le g.cosine_le, mul-le-mul g.sine_le g.sine_le)

  length_le : length p ≤ 2 * unit
  length_le = root_le (pair_squares p) (2 * unit) (omega (arith, squares_le)) (omega (arith, squares_le))

  length_pos : 0 < length p
  length_pos = root_ge (pair_squares p) 1 (omega (arith, squares_le)) (omega (arith, g.near.low))

  length_holds : (l : ℤ) → l ≡ pos (root (pair_squares p)) → Holds (bits l) (pos (length p)) (2 * unit)
  length_holds l e = got e length_le tt

  -- ---- the parts

  cosine_le_length : nat_abs p.cosine ≤ length p
  unfolding pair_squares square
  cosine_le_length = le_root (nat_abs p.cosine) (pair_squares p) (length p) (omega arith)
      (root_root (pair_squares p) (omega (arith, squares_le)))

  sine_le_length : nat_abs p.sine ≤ length p
  unfolding pair_squares square
  sine_le_length = le_root (nat_abs p.sine) (pair_squares p) (length p) (omega arith)
      (root_root (pair_squares p) (omega (arith, squares_le)))

  part_fits : (z : ℤ) → nat_abs z ≤ length p → PartFits z (pos (length p))
  part_fits z h = record {
    part_le = omega (arith, h, length_le);
    length_pos = record { lt = lt→ltb 0 (length p) length_pos };
    length_le = omega (arith, length_le);
  }

  part_holds : (z r : ℤ) → nat_abs z ≤ length p → r ≡ part_to (length p) z → Holds (bits r) (part_to (length p) z) unit
  part_holds z r h e = got e (part_to_le z (length p) length_pos h) tt

-- ---- the needs

pub overflow_mul-p : goal.overflow_mul-p
overflow_mul-p c = let h = c_holds c.args.p c.requires in mul_ok h h tt

pub overflow_mul-p-2 : goal.overflow_mul-p-2
overflow_mul-p-2 c = let h = s_holds c.args.p c.requires in mul_ok h h tt

pub overflow_add-p : goal.overflow_add-p
overflow_add-p c =
    let h = c_holds c.args.p c.requires in
    let k = s_holds c.args.p c.requires in
    add_ok (mul h h tt) (mul k k tt) tt

pub near_root-l-requires : goal.near_root-l-requires
near_root-l-requires c = rw ((squares_hold c.args.p c.requires).value, squares_is c.args.p) c.requires.near

pub part_to-requires : goal.part_to-requires
part_to-requires c =
    let p = c.args.p in
    let g : PairGiven p = c.requires in
    let l = rw ((squares_hold p g).value, squares_is p) at c.near_root-l.ensures in
    rw ((length_holds p g c.near_root-l.result l).value, (c_holds p g).value) (part_fits p g p.cosine (cosine_le_length p g))

pub part_to-requires-2 : goal.part_to-requires-2
part_to-requires-2 c =
    let p = c.args.p in
    let g : PairGiven p = c.requires in
    let l = rw ((squares_hold p g).value, squares_is p) at c.near_root-l.ensures in
    rw ((length_holds p g c.near_root-l.result l).value, (s_holds p g).value) (part_fits p g p.sine (sine_le_length p g))

pub returns : goal.returns
unfolding pair_to_length
returns c =
    let p = c.args.p in
    let g : PairGiven p = c.requires in
    let l = rw ((squares_hold p g).value, squares_is p) at c.near_root-l.ensures in
    let h = (length_holds p g c.near_root-l.result l).value in
    let x = rw (h, (c_holds p g).value) at c.part_to.ensures in
    let y = rw (h, (s_holds p g).value) at c.part_to-2.ensures in
    rw (
      (part_holds p g p.cosine c.part_to.result (cosine_le_length p g) x).value,
      (part_holds p g p.sine c.part_to-2.result (sine_le_length p g) y).value,
    )
