-- `reading::octants::angle_to_quarter` meets its contract.
use Prim.Native.Nat.{ℕ, ◌≤◌, ◌<◌, ◌^◌}
use native.Mathlib.Omega.{arith}
use lib.IntN.{pos, nat_abs}
use Rattle.integers.specs.Difference.{lt_z_true, lt_z_false}
use Rattle.rules.specs.Units.{quarter, half_quarter}
use Rattle.rules.specs.Reading as rule
use Rattle.laws.specs.UpTo.{up_to_pos, up_to_is, up_to_le}
use Rattle.laws.specs.ReadingRange.{angle_to_half_range, angle_wide, angle_high}
use Rattle.words.specs.Holds.{Holds, bits, got, lit, sub, sub_ok}
use Rattle.reading.specs.Given.{OctantGiven}
use Rattle.reading.proofs.octants.angle_to_quarter.Goals as goal
use Rattle.reading.proofs.octants.angle_to_quarter.Lts as lts
use Rattle.reading.proofs.octants.angle_to_quarter.Tie as tie
use Rattle.reading.proofs.octants.angle_to_quarter.Reads as reads

abbrev h : lts.Start tie.the-claims reads.Pre reads.Post → ℕ
h c = nat_abs c.args.h

abbrev v : lts.Start tie.the-claims reads.Pre reads.Post → ℕ
v c = nat_abs c.args.v

h_holds : (c : lts.Start tie.the-claims reads.Pre reads.Post) → Holds (bits c.args.h) (pos (h c)) (2 ^ 31)
h_holds c =
    got (up_to_is c.args.h (2 ^ 31) c.requires.h_range) (up_to_le c.args.h (2 ^ 31) c.requires.h_range) tt

v_holds : (c : lts.Start tie.the-claims reads.Pre reads.Post) → Holds (bits c.args.v) (pos (v c)) (2 ^ 31)
v_holds c =
    got (up_to_is c.args.v (2 ^ 31) c.requires.v_range) (up_to_le c.args.v (2 ^ 31) c.requires.v_range) tt

given : (m n : ℕ) → m ≤ 2 ^ 31 → n ≤ 2 ^ 31 → 0 < n → m ≤ n → OctantGiven (pos m) (pos n)
given m n hm hn hp k = record {
  m_range = up_to_pos m (2 ^ 31) hm;
  n_range = up_to_pos n (2 ^ 31) hn;
  n_pos = hp;
  m_le_n = k;
}

-- ---- v the larger

high : (c : goal.Then-h-v) → h c.before < v c.before
high c =
    let b = c.before in
    let t = rw ((h_holds b).value, (v_holds b).value) at c.if-h-v.true in
    omega (arith, lt_z_true (pos (h b)) (pos (v b)) t)

angle_holds : (c : goal.After-angle_to_half)
    → Holds (bits c.angle_to_half.result) (rule.angle_to_half (h c.before.before) (v c.before.before))
    half_quarter
angle_holds c =
    let b = c.before.before in
    let k = high c.before in
    got (rw ((h_holds b).value, (v_holds b).value) at c.angle_to_half.ensures)
    (up_to_le (rule.angle_to_half (h b) (v b)) half_quarter (angle_to_half_range (h b) (v b) (omega arith) (omega arith))) tt

pub angle_to_half-requires : goal.angle_to_half-requires
angle_to_half-requires c =
    let b = c.before in
    let k = high c in
    rw ((h_holds b).value, (v_holds b).value)
    (given (h b) (v b) (h_holds b).size (v_holds b).size (omega arith) (omega arith))

pub overflow_sub-result : goal.overflow_sub-result
overflow_sub-result c = sub_ok (lit quarter tt) (angle_holds c) tt

pub returns-then-h-v : goal.returns-then-h-v
returns-then-h-v c =
    let b = c.before.before in
    rw (angle_high (h b) (v b) (high c.before)) (sub (lit quarter tt) (angle_holds c) tt).value

-- ---- h the larger, or both the same

wide : (c : goal.Else-h-v) → v c.before ≤ h c.before
wide c =
    let b = c.before in
    let t = rw ((h_holds b).value, (v_holds b).value) at c.if-h-v.false in
    omega (arith, lt_z_false (pos (h b)) (pos (v b)) t)

pub angle_to_half-requires-2 : goal.angle_to_half-requires-2
angle_to_half-requires-2 c =
    let b = c.before in
    let k = wide c in
    rw ((h_holds b).value, (v_holds b).value)
    (given (v b) (h b) (v_holds b).size (h_holds b).size (omega (arith, b.requires.some)) k)

pub returns : goal.returns
returns c =
    let b = c.before.before in
    let k = wide c.before in
    rw (angle_wide (h b) (v b) k)
    (got (rw ((h_holds b).value, (v_holds b).value) at c.angle_to_half-2.ensures)
    (up_to_le (rule.angle_to_half (v b) (h b)) half_quarter
    (angle_to_half_range (v b) (h b) (omega (arith, b.requires.some)) k)) tt).value
