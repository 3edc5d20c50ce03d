-- `circle::quarters::pair_to_quarter` meets its contract.
use mathlib.Core.Path.{◌≡◌, ap}
use Prim.Native.Nat.{ℕ, ◌-◌, ◌≤◌, ◌<◌}
use native.Mathlib.Omega.{arith}
use lib.IntN.{pos, nat_abs}
use Rattle.integers.specs.Difference.{le_z_true, le_z_false}
use Rattle.rules.specs.Units.{unit, quarter, half_quarter}
use Rattle.rules.specs.Circle as rule
use Rattle.laws.specs.UpTo.{up_to_pos, up_to_is, up_to_le}
use Rattle.laws.specs.Folding.{lower_half, upper_half}
use Rattle.laws.specs.Angles.{pair_to_half_sized}
use Rattle.words.specs.Holds.{Holds, bits, ◌-ʷ◌, got, lit, sub_nat, sub_nat_ok}
use Rattle.circle.proofs.quarters.pair_to_quarter.Goals as goal
use Rattle.circle.proofs.quarters.pair_to_quarter.Lts as lts
use Rattle.circle.proofs.quarters.pair_to_quarter.Tie as tie
use Rattle.circle.proofs.quarters.pair_to_quarter.Reads as reads

abbrev size : lts.Start tie.the-claims reads.Pre reads.Post → ℕ
size c = nat_abs c.args.r

r_holds : (c : lts.Start tie.the-claims reads.Pre reads.Post) → Holds (bits c.args.r) (pos (size c)) quarter
r_holds c = got (up_to_is c.args.r quarter c.requires) (up_to_le c.args.r quarter c.requires) tt

-- ---- to half a quarter

low : (c : goal.Then-r-le-HALF_QUARTER) → size c.before ≤ half_quarter
low c =
    let t = rw (r_holds c.before).value at c.if-r-le-HALF_QUARTER.true in
    omega (arith, le_z_true (pos (size c.before)) (pos half_quarter) t)

pub pair_to_half-requires : goal.pair_to_half-requires
pair_to_half-requires c = rw (r_holds c.before).value (up_to_pos (size c.before) half_quarter (low c))

pub returns-then-r-le-HALF_QUARTER : goal.returns-then-r-le-HALF_QUARTER
returns-then-r-le-HALF_QUARTER c =
    let b = c.before.before in
    rw (lower_half rule.pair_to_half (size b) (low c.before)) (rw (r_holds b).value at c.pair_to_half.ensures)

-- ---- above it

high : (c : goal.Else-r-le-HALF_QUARTER) → half_quarter < size c.before
high c =
    let t = rw (r_holds c.before).value at c.if-r-le-HALF_QUARTER.false in
    omega (arith, le_z_false (pos (size c.before)) (pos half_quarter) t)

rest_holds : (c : lts.Start tie.the-claims reads.Pre reads.Post) → Holds (quarter -ʷ bits c.args.r) (pos (quarter - size c)) quarter
rest_holds c = sub_nat (lit quarter tt) (r_holds c) (r_holds c).size tt

pub overflow_sub-r : goal.overflow_sub-r
overflow_sub-r c = sub_nat_ok (lit quarter tt) (r_holds c.before) (r_holds c.before).size tt

pub pair_to_half-p-requires : goal.pair_to_half-p-requires
pair_to_half-p-requires c =
    rw (rest_holds c.before).value
    (up_to_pos (quarter - size c.before) half_quarter (omega (arith, high c)))

half_is : (c : lts.After-pair_to_half2 tie.the-claims reads.Pre reads.Post)
    → c.pair_to_half-p.result ≡ rule.pair_to_half (quarter - size c.before.before)
half_is c = rw (rest_holds c.before.before).value at c.pair_to_half-p.ensures

cosine_holds : (c : lts.After-pair_to_half2 tie.the-claims reads.Pre reads.Post)
    → Holds (bits c.pair_to_half-p.result.cosine)
    (rule.pair_to_half (quarter - size c.before.before)).cosine unit
cosine_holds c =
    let b = c.before.before in
    got (ap (λ p. p.cosine) (half_is c))
    (pair_to_half_sized (quarter - size b) (omega (arith, high c.before))).cosine_le tt

sine_holds : (c : lts.After-pair_to_half2 tie.the-claims reads.Pre reads.Post)
    → Holds (bits c.pair_to_half-p.result.sine) (rule.pair_to_half (quarter - size c.before.before)).sine unit
sine_holds c =
    let b = c.before.before in
    got (ap (λ p. p.sine) (half_is c))
    (pair_to_half_sized (quarter - size b) (omega (arith, high c.before))).sine_le tt

pub returns : goal.returns
unfolding rule.exchanged_pair
returns c =
    let b = c.before.before.before in
    rw (
      (cosine_holds c.before).value,
      (sine_holds c.before).value,
      upper_half rule.pair_to_half (size b) (high c.before.before),
    )
