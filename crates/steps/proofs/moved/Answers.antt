-- `steps::moved` meets its contract.
use mathlib.Core.Path.{ap, ◌∙◌}
use Prim.Native.Nat.{◌≤◌, ◌^◌}
use native.Mathlib.Nat.{mul-le-mul}
use native.Mathlib.Omega.{arith}
use lib.Dec.{lit<}
use lib.IntN.{ℤ, nat_abs, ◌*ℤ◌, *ℤ_comm}
use Rattle.integers.specs.Size.{abs_mul}
use Rattle.words.specs.Holds.{Holds, bits, arg, got, from_i32, add, add_ok}
use Rattle.rules.specs.Units.{year}
use Rattle.rules.specs.Rounding.{rnd}
use Rattle.rules.specs.Place.{moved}
use Rattle.laws.specs.Rounding.{rnd_under}
use Rattle.laws.specs.Product.{motion_fits}
use Rattle.steps.proofs.moved.Goals as goal

t_holds : (c : goal.After-rnd_product_quotient) → Holds (bits c.args.t.0) c.args.t.0 (2 ^ 42)
t_holds c = arg c.args.t.0 (omega (arith, c.requires.instant)) tt

-- what the motion comes to: at most a hundred times itself
abbrev carried : goal.After-rnd_product_quotient → ℤ
carried c = rnd (c.args.motion *ℤ c.args.t.0) year

carried_le : (c : goal.After-rnd_product_quotient) → nat_abs (carried c) ≤ 2 ^ 41
carried_le c =
    let m = c.args.motion in
    let t = c.args.t.0 in
    rnd_under (m *ℤ t) year (2 ^ 41) (lit< tt)
    (rw (abs_mul m t) (omega (arith, mul-le-mul c.requires.motion_le c.requires.instant)))

carried_holds : (c : goal.After-rnd_product_quotient)
    → Holds (bits c.rnd_product_quotient.result) (carried c) (2 ^ 41)
carried_holds c =
    got (rw ((t_holds c).value, (from_i32 _ _ c.ranges.motion c.from.ensures).value)
    at c.rnd_product_quotient.ensures
    ∙ ap (λ z. rnd z year) (*ℤ_comm c.args.t.0 c.args.motion)) (carried_le c) tt

angle_holds : (c : goal.After-rnd_product_quotient) → Holds (bits c.args.angle) c.args.angle (2 ^ 41)
angle_holds c = arg c.args.angle c.requires.angle_le tt

pub returns : goal.returns
unfolding moved
returns c = (add (angle_holds c) (carried_holds c) tt).value

pub rnd_product_quotient-requires : goal.rnd_product_quotient-requires
rnd_product_quotient-requires c =
    let t = arg c.args.t.0 {b = 2 ^ 42} (omega (arith, c.requires.instant)) tt in
    rw (t.value, (from_i32 _ _ c.ranges.motion c.from.ensures).value)
    (motion_fits c.args.t.0 c.args.motion c.requires.instant c.requires.motion_le)

pub overflow_add-result : goal.overflow_add-result
overflow_add-result c = add_ok (angle_holds c) (carried_holds c) tt
