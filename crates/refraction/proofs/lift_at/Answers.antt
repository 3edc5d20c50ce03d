-- `refraction::lift_at` meets its contract: nought by the test, else the two calls in turn.
use mathlib.Core.Path.{◌≡◌, sym, ◌∙◌}
use mathlib.Core.Bool.{Bool, true, false}
use mir.Syntax.{w64}
use mir.Val.{to_z, of_z}
use mir.Facts.{to_z-of_z}
use Rattle.words.specs.Fits.{held64}
use Rattle.rules.specs.Refraction.{standard_lift, is_lifted, lift_at}
use Rattle.laws.specs.Refraction.{air_weighed}
use Rattle.refraction.proofs.lift_at.Goals as goal
use Rattle.refraction.proofs.lift_at.Goals.{After-standard_lift, Else-not-is_between}
use Rattle.refraction.proofs.lift_at.Lts as lts
use Rattle.refraction.proofs.lift_at.Reads as reads
use Rattle.refraction.proofs.lift_at.Tie as tie

lifted_test : (c : lts.After-is_between tie.the-claims reads.Pre reads.Post) (b : Bool) → c.is_between.result ≡ b
    → is_lifted c.args.h ≡ b
unfolding is_lifted
lifted_test c b e = sym (rw (to_z-of_z c.ranges.h) at c.is_between.ensures) ∙ e

lifted : (c : Else-not-is_between) → is_lifted c.args.h ≡ true
lifted c = lifted_test c.before true c.if-not-is_between.false

pub returns-then-not-is_between : goal.returns-then-not-is_between
unfolding lift_at
returns-then-not-is_between c = rw (lifted_test c.before false c.if-not-is_between.true)

-- ---- the weather

standard_is : (c : After-standard_lift)
    → to_z w64 (of_z w64 c.standard_lift.result) ≡ standard_lift c.args.h
standard_is c =
    held64 c.standard_lift.result c.standard_lift.type_inv
    ∙ rw (to_z-of_z c.ranges.h) at c.standard_lift.ensures

pub returns : goal.returns
unfolding lift_at
returns c =
    let e = c.before.before in
    let s = e.before.before in
    held64 c.in_weather.result c.in_weather.type_inv
    ∙ rw (standard_is c.before, to_z-of_z s.ranges.p, to_z-of_z s.ranges.t) at c.in_weather.ensures
    ∙ rw (lifted e)

pub standard_lift-requires : goal.standard_lift-requires
standard_lift-requires c = rw (to_z-of_z c.ranges.h) (lifted c)

pub in_weather-requires : goal.in_weather-requires
in_weather-requires c =
    let s = c.before.before.before in
    rw (standard_is c, to_z-of_z s.ranges.p, to_z-of_z s.ranges.t)
    (air_weighed s.args.p s.args.t s.args.h s.requires (lifted c.before))
