-- `stars::numbers_refused` meets its contract.
use mathlib.Core.Path.{◌≡◌, sym, ap, ◌∙◌}
use mathlib.Core.Bool.{true, not}
use Prim.Native.Nat.{◌-◌}
use lib.IntN.{pos}
use mir.Facts.{to_z-of_z}
use Rattle.rules.specs.Units.{circle, quarter, between, within}
use Rattle.rules.specs.Stars.{most_motion, star_refused}
use Rattle.stars.proofs.numbers_refused.Goals as goal
use Rattle.stars.proofs.numbers_refused.Goals.{Else-not-is_between, Else-not-is_between-2, Else-not-is_between-3}
use Rattle.stars.proofs.numbers_refused.Lts as lts
use Rattle.stars.proofs.numbers_refused.Reads as reads
use Rattle.stars.proofs.numbers_refused.Tie as tie

-- ---- right ascension

ra_tested : (c : lts.After-is_between tie.the-claims reads.Pre reads.Post)
    → c.is_between.result ≡ between (pos 0) (pos (circle - 1)) c.before.args.ra
ra_tested c = rw (to_z-of_z c.before.ranges.ra) at c.is_between.ensures

pub returns-then-not-is_between : goal.returns-then-not-is_between
unfolding star_refused
returns-then-not-is_between c =
    let out = sym (ra_tested c.before) ∙ c.if-not-is_between.true in
    simp out

ra_in : (c : Else-not-is_between) → between (pos 0) (pos (circle - 1)) c.before.before.args.ra ≡ true
ra_in c = sym (ra_tested c.before) ∙ c.if-not-is_between.false

-- ---- declination

declination_tested : (c : lts.After-is_between2 tie.the-claims reads.Pre reads.Post)
    → c.is_between-2.result ≡ within quarter c.before.before.before.args.declination
unfolding within
declination_tested c = rw (to_z-of_z c.before.before.before.ranges.declination) at c.is_between-2.ensures

pub returns-then-not-is_between-2 : goal.returns-then-not-is_between-2
unfolding star_refused
returns-then-not-is_between-2 c =
    let out = sym (declination_tested c.before) ∙ c.if-not-is_between-2.true in
    simp (ra_in c.before.before, out)

declination_in : (c : Else-not-is_between-2) → within quarter c.before.before.before.before.args.declination ≡ true
declination_in c = sym (declination_tested c.before) ∙ c.if-not-is_between-2.false

-- ---- the motions

ra_motion_tested : (c : lts.After-is_between3 tie.the-claims reads.Pre reads.Post)
    → c.is_between-3.result ≡ within most_motion c.before.before.before.before.before.args.ra_motion
unfolding within
ra_motion_tested c =
    rw (to_z-of_z c.before.before.before.before.before.ranges.ra_motion) at c.is_between-3.ensures

pub returns-then-not-is_between-3 : goal.returns-then-not-is_between-3
unfolding star_refused
returns-then-not-is_between-3 c =
    let out = sym (ra_motion_tested c.before) ∙ c.if-not-is_between-3.true in
    simp (ra_in c.before.before.before.before, declination_in c.before.before, out)

ra_motion_in : (c : Else-not-is_between-3)
    → within most_motion c.before.before.before.before.before.before.args.ra_motion ≡ true
ra_motion_in c = sym (ra_motion_tested c.before) ∙ c.if-not-is_between-3.false

pub returns : goal.returns
unfolding star_refused within
returns c =
    let past = c.before in
    let motion = past.before.before.before.before.before.before.ranges.declination_motion in
    let is = rw (to_z-of_z motion) at c.is_between-4.ensures in
    simp (ra_in past.before.before.before.before, declination_in past.before.before, ra_motion_in past)
    (ap not is)
