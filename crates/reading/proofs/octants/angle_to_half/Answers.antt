-- `reading::octants::angle_to_half` meets its contract, in the two cases of the switch.
use Prim.Native.Nat.{ℕ, ◌+◌, ◌*◌, ◌-◌, ◌≤◌, ◌<◌, ◌^◌}
use mathlib.Core.Path.{◌≡◌, refl}
use native.Mathlib.Omega.{arith}
use lib.Dec.{lt→ltb}
use lib.IntN.{ℤ, pos, nat_abs}
use Rattle.integers.specs.Difference.{le_z_true, le_z_false}
use Rattle.rules.specs.Units.{unit, half_quarter}
use Rattle.rules.specs.Length.{part_to}
use Rattle.rules.specs.Reading as rule
use Rattle.laws.specs.UpTo.{UpTo, up_to_is, up_to_le, up_to_of_le}
use Rattle.laws.specs.Arc.{ratio, three_sevenths, ratio_range, arc_of_ratio_range}
use Rattle.laws.specs.ReadingRange.{microarcseconds_range, angle_flat, angle_steep}
use Rattle.words.specs.Holds.{Holds, bits, ◌+ʷ◌, ◌-ʷ◌, ◌*ʷ◌, got, lit, add, add_ok, sub, sub_ok, sub_nat, sub_nat_ok}
use Rattle.words.specs.Holds.{mul, mul_ok}
use Rattle.length.specs.Given.{PartFits}
use Rattle.reading.proofs.octants.angle_to_half.Goals as goal
use Rattle.reading.proofs.octants.angle_to_half.Goals.{Start, Then-m-n, Else-m-n, After-part_to, After-part_to-2, After-arc, After-arc-2, After-in_microarcseconds, After-in_microarcseconds-2}

abbrev m : Start → ℕ
m c = nat_abs c.args.m

abbrev n : Start → ℕ
n c = nat_abs c.args.n

m_holds : (c : Start) → Holds (bits c.args.m) (pos (m c)) (2 ^ 31)
m_holds c =
    got (up_to_is c.args.m (2 ^ 31) c.requires.m_range) (up_to_le c.args.m (2 ^ 31) c.requires.m_range) tt

n_holds : (c : Start) → Holds (bits c.args.n) (pos (n c)) (2 ^ 31)
n_holds c =
    got (up_to_is c.args.n (2 ^ 31) c.requires.n_range) (up_to_le c.args.n (2 ^ 31) c.requires.n_range) tt

-- ---- the switch

five_holds : (c : Start) → Holds (5 *ʷ bits c.args.m) (pos (5 * m c)) (5 * 2 ^ 31)
five_holds c = mul (lit 5 tt) (m_holds c) tt

two_holds : (c : Start) → Holds (2 *ʷ bits c.args.n) (pos (2 * n c)) (2 * 2 ^ 31)
two_holds c = mul (lit 2 tt) (n_holds c) tt

flat : (c : Then-m-n) → 5 * m c.before ≤ 2 * n c.before
flat c =
    let b = c.before in
    let t = rw ((five_holds b).value, (two_holds b).value) at c.if-m-n.true in
    omega (arith, le_z_true (pos (5 * m b)) (pos (2 * n b)) t)

steep : (c : Else-m-n) → 2 * n c.before < 5 * m c.before
steep c =
    let b = c.before in
    let t = rw ((five_holds b).value, (two_holds b).value) at c.if-m-n.false in
    omega (arith, le_z_false (pos (5 * m b)) (pos (2 * n b)) t)

given : (a b : ℕ) → a ≤ 2 ^ 32 → b ≤ 2 ^ 32 → 0 < b → PartFits (pos a) (pos b)
given a b ha hb hp = record { part_le = ha; length_pos = record { lt = lt→ltb 0 b hp }; length_le = hb }

-- the ratio is a part of a length
ratio_is : (a b : ℕ) → part_to b (pos a) ≡ ratio a b
unfolding part_to
ratio_is a b = refl

-- ---- the first case

first_le : (c : Then-m-n) → 7 * m c.before ≤ 3 * n c.before
first_le c = omega (arith, flat c)

first_ratio_holds : (c : After-part_to)
    → Holds (bits c.part_to.result) (ratio (m c.before.before) (n c.before.before)) three_sevenths
first_ratio_holds c =
    let b = c.before.before in
    got (rw ((m_holds b).value, (n_holds b).value, ratio_is (m b) (n b)) at c.part_to.ensures)
    (up_to_le (ratio (m b) (n b)) three_sevenths (ratio_range (m b) (n b) b.requires.n_pos (first_le c.before))) tt

first_range : (c : Then-m-n) → UpTo (rule.arc (ratio (m c.before) (n c.before))) three_sevenths
first_range c =
    let b = c.before in
    arc_of_ratio_range (m b) (n b) b.requires.n_pos (first_le c)

first_arc_holds : (c : After-arc)
    → Holds (bits c.arc.result) (rule.arc (ratio (m c.before.before.before) (n c.before.before.before)))
    three_sevenths
first_arc_holds c =
    let b = c.before.before.before in
    got (rw (first_ratio_holds c.before).value at c.arc.ensures)
    (up_to_le (rule.arc (ratio (m b) (n b))) three_sevenths (first_range c.before.before)) tt

pub returns-then-m-n : goal.returns-then-m-n
returns-then-m-n c =
    let b = c.before.before.before.before in
    let θ = rule.arc (ratio (m b) (n b)) in
    let i = microarcseconds_range θ (first_range c.before.before.before) in
    rw (angle_flat (m b) (n b) (flat c.before.before.before))
    (got (rw (first_arc_holds c.before).value at c.in_microarcseconds.ensures)
    (up_to_le (rule.in_microarcseconds θ) half_quarter i) tt).value

-- ---- the second case

less_holds : (c : Start) → Holds (bits c.args.n -ʷ bits c.args.m) (pos (n c - m c)) (2 ^ 31)
less_holds c = sub_nat (n_holds c) (m_holds c) c.requires.m_le_n tt

more_holds : (c : Start) → Holds (bits c.args.n +ʷ bits c.args.m) (pos (n c + m c)) (2 ^ 31 + 2 ^ 31)
more_holds c = add (n_holds c) (m_holds c) tt

second_pos : (c : Else-m-n) → 0 < n c.before + m c.before
second_pos c = omega (arith, steep c)

second_le : (c : Else-m-n) → 7 * (n c.before - m c.before) ≤ 3 * (n c.before + m c.before)
second_le c = omega (arith, steep c, c.requires.m_le_n)

abbrev second : Start → ℤ
second c = ratio (n c - m c) (n c + m c)

second_ratio_range : (c : Else-m-n) → UpTo (second c.before) three_sevenths
second_ratio_range c =
    let b = c.before in
    ratio_range (n b - m b) (n b + m b) (second_pos c) (second_le c)

second_ratio_holds : (c : After-part_to-2)
    → Holds (bits c.part_to-2.result) (second c.before.before) three_sevenths
second_ratio_holds c =
    let b = c.before.before in
    got (rw ((less_holds b).value, (more_holds b).value, ratio_is (n b - m b) (n b + m b)) at c.part_to-2.ensures)
    (up_to_le (second b) three_sevenths (second_ratio_range c.before)) tt

second_range : (c : Else-m-n) → UpTo (rule.arc (second c.before)) three_sevenths
second_range c =
    let b = c.before in
    arc_of_ratio_range (n b - m b) (n b + m b) (second_pos c) (second_le c)

second_arc_holds : (c : After-arc-2)
    → Holds (bits c.arc-2.result) (rule.arc (second c.before.before.before)) three_sevenths
second_arc_holds c =
    let b = c.before.before.before in
    got (rw (second_ratio_holds c.before).value at c.arc-2.ensures)
    (up_to_le (rule.arc (second b)) three_sevenths (second_range c.before.before)) tt

angle_holds : (c : After-in_microarcseconds-2)
    → Holds (bits c.in_microarcseconds-2.result)
    (rule.in_microarcseconds (rule.arc (second c.before.before.before.before))) half_quarter
angle_holds c =
    let θ = rule.arc (second c.before.before.before.before) in
    got (rw (second_arc_holds c.before).value at c.in_microarcseconds-2.ensures)
    (up_to_le (rule.in_microarcseconds θ) half_quarter
    (microarcseconds_range θ (second_range c.before.before.before))) tt

pub returns : goal.returns
returns c =
    let b = c.before.before.before.before in
    rw (angle_steep (m b) (n b) (steep c.before.before.before))
    (sub (lit half_quarter tt) (angle_holds c) tt).value

-- ---- what each operation and call asks

pub overflow_mul-m : goal.overflow_mul-m
overflow_mul-m c = mul_ok (lit 5 tt) (m_holds c) tt

pub overflow_mul-n : goal.overflow_mul-n
overflow_mul-n c = mul_ok (lit 2 tt) (n_holds c) tt

pub part_to-requires : goal.part_to-requires
part_to-requires c =
    let b = c.before in
    rw ((m_holds b).value, (n_holds b).value)
    (given (m b) (n b) (omega (arith, (m_holds b).size)) (omega (arith, (n_holds b).size)) b.requires.n_pos)

pub arc-requires : goal.arc-requires
arc-requires c =
    let b = c.before.before in
    rw (first_ratio_holds c).value (ratio_range (m b) (n b) b.requires.n_pos (first_le c.before))

pub in_microarcseconds-requires : goal.in_microarcseconds-requires
in_microarcseconds-requires c =
    let b = c.before.before.before in
    rw (first_arc_holds c).value
    (up_to_of_le (rule.arc (ratio (m b) (n b))) three_sevenths unit (omega arith) (first_range c.before.before))

pub overflow_sub-n : goal.overflow_sub-n
overflow_sub-n c = sub_nat_ok (n_holds c.before) (m_holds c.before) c.requires.m_le_n tt

pub overflow_add-n : goal.overflow_add-n
overflow_add-n c = add_ok (n_holds c.before) (m_holds c.before) tt

pub part_to-requires-2 : goal.part_to-requires-2
part_to-requires-2 c =
    let b = c.before in
    rw ((less_holds b).value, (more_holds b).value)
    (given (n b - m b) (n b + m b) (omega (arith, (less_holds b).size)) (omega (arith, (more_holds b).size))
    (second_pos c))

pub arc-requires-2 : goal.arc-requires-2
arc-requires-2 c = rw (second_ratio_holds c).value (second_ratio_range c.before)

pub in_microarcseconds-requires-2 : goal.in_microarcseconds-requires-2
in_microarcseconds-requires-2 c =
    let b = c.before.before.before in
    rw (second_arc_holds c).value
    (up_to_of_le (rule.arc (second b)) three_sevenths unit (omega arith) (second_range c.before.before))

pub overflow_sub-result : goal.overflow_sub-result
overflow_sub-result c = sub_ok (lit half_quarter tt) (angle_holds c) tt
