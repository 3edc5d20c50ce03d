-- `reading::octants::angle_of` meets its contract.
use Prim.Native.Nat.{ℕ, ◌^◌}
use mathlib.Core.Path.{◌≡◌}
use mathlib.Core.Bool.{true, false}
use native.Mathlib.Omega.{arith}
use lib.IntN.{ℤ, pos, nat_abs}
use lib.Signed.{lt_z}
use Rattle.rules.specs.Units.{circle, quarter}
use Rattle.rules.specs.Reading as rule
use Rattle.laws.specs.UpTo.{up_to_pos, up_to_le}
use Rattle.laws.specs.ReadingRange.{angle_to_quarter_range, by_signs_range}
use Rattle.words.specs.Holds.{Holds, bits, arg, got}
use Rattle.reading.proofs.octants.angle_of.Goals as goal
use Rattle.reading.proofs.octants.angle_of.Lts as lts
use Rattle.reading.proofs.octants.angle_of.Tie as tie
use Rattle.reading.proofs.octants.angle_of.Reads as reads

h_holds : (c : goal.Start) → Holds (bits c.args.h) c.args.h (2 ^ 31)
h_holds c = arg c.args.h c.requires.h_le tt

v_holds : (c : goal.Start) → Holds (bits c.args.v) c.args.v (2 ^ 31)
v_holds c = arg c.args.v c.requires.v_le tt

-- ---- the sizes

abbrev m : goal.Start → ℕ
m c = nat_abs c.args.h

abbrev n : goal.Start → ℕ
n c = nat_abs c.args.v

m_is : (c : goal.After-size_of-m) → c.size_of-m.result ≡ pos (m c.before)
m_is c = rw (h_holds c.before).value at c.size_of-m.ensures

n_is : (c : goal.After-size_of-n) → c.size_of-n.result ≡ pos (n c.before.before)
n_is c = rw (v_holds c.before.before).value at c.size_of-n.ensures

m_holds : (c : goal.After-size_of-m) → Holds (bits c.size_of-m.result) (pos (m c.before)) (2 ^ 31)
m_holds c = got (m_is c) c.requires.h_le tt

n_holds : (c : goal.After-size_of-n) → Holds (bits c.size_of-n.result) (pos (n c.before.before)) (2 ^ 31)
n_holds c = got (n_is c) c.requires.v_le tt

pub size_of-m-requires : goal.size_of-m-requires
size_of-m-requires c = rw (h_holds c).value (omega (arith, (h_holds c).size))

pub size_of-n-requires : goal.size_of-n-requires
size_of-n-requires c = rw (v_holds c.before).value (omega (arith, (v_holds c.before).size))

-- ---- the angle

angle_holds : (c : goal.After-angle_to_quarter)
    → Holds (bits c.angle_to_quarter.result)
    (rule.angle_to_quarter (m c.before.before.before) (n c.before.before.before)) quarter
angle_holds c =
    let k = c.before in
    let b = k.before.before in
    got (rw ((m_holds k.before).value, (n_holds k).value) at c.angle_to_quarter.ensures)
    (up_to_le (rule.angle_to_quarter (m b) (n b)) quarter (angle_to_quarter_range (m b) (n b) b.requires.some)) tt

abbrev placed : goal.Start → ℤ
placed c = rule.by_signs c.args.h c.args.v (rule.angle_to_quarter (m c) (n c))

placed_holds : (c : lts.After-by_signs tie.the-claims reads.Pre reads.Post)
    → Holds (bits c.by_signs-a.result) (placed c.before.before.before.before) circle
placed_holds c =
    let b = c.before.before.before.before in
    let θ = rule.angle_to_quarter (m b) (n b) in
    got (rw ((h_holds b).value, (v_holds b).value, (angle_holds c.before).value) at c.by_signs-a.ensures)
    (up_to_le (placed b) circle
    (by_signs_range b.args.h b.args.v θ (angle_to_quarter_range (m b) (n b) b.requires.some))) tt

pub angle_to_quarter-requires : goal.angle_to_quarter-requires
angle_to_quarter-requires c =
    let b = c.before.before in
    rw ((m_holds c.before).value, (n_holds c).value)
    (record {
      h_range = up_to_pos (m b) (2 ^ 31) b.requires.h_le;
      v_range = up_to_pos (n b) (2 ^ 31) b.requires.v_le;
      some = b.requires.some;
    })

pub by_signs-a-requires : goal.by_signs-a-requires
by_signs-a-requires c =
    let b = c.before.before.before in
    rw (angle_holds c).value (angle_to_quarter_range (m b) (n b) b.requires.some)

pub returns-then-a-lt-CIRCLE : goal.returns-then-a-lt-CIRCLE
unfolding rule.not_circle rule.angle_of
returns-then-a-lt-CIRCLE c =
    let b = c.before.before.before.before.before in
    let t : lt_z (placed b) (pos circle) ≡ true = rw (placed_holds c.before).value at c.if-a-lt-CIRCLE.true in
    rw t (placed_holds c.before).value

pub returns-else-a-lt-CIRCLE : goal.returns-else-a-lt-CIRCLE
unfolding rule.not_circle rule.angle_of
returns-else-a-lt-CIRCLE c =
    let b = c.before.before.before.before.before in
    let t : lt_z (placed b) (pos circle) ≡ false = rw (placed_holds c.before).value at c.if-a-lt-CIRCLE.false in
    rw t
