-- `steps::apparent` meets its contract: a star that is not refused has small angles, and each step's direction is
-- accepted.
use Rattle.std.specs.Prelude.{false}
use mathlib.Core.Path.{◌≡◌, ap, ◌∙◌}
use native.Mathlib.Omega.{arith}
use lib.IntN.{ℤ}
use mir.Syntax.{w32, w64}
use mir.Val.{to_z, of_z}
use mir.Facts.{to_z-of_z}
use Rattle.words.specs.Fits.{fits32, fits64, held64}
use Rattle.rules.specs.declared.Direction.{Direction}
use Rattle.rules.specs.declared.Night.{Night}
use Rattle.rules.specs.declared.Star.{Star}
use Rattle.rules.specs.Length.{squares}
use Rattle.rules.specs.Turning.{Accepted}
use Rattle.rules.specs.Stars.{star_refused}
use Rattle.laws.specs.Night.{NightFits}
use Rattle.rules.specs.Place.{moved, directed, precessed, aberrated, nutated, apparent}
use Rattle.laws.specs.Place.{star_ranges, moved_le}
use Rattle.laws.proofs.Place.{directed_accepted, precessed_accepted}
use Rattle.laws.proofs.Place.{aberrated_accepted, apparent_accepted}
use Rattle.steps.proofs.apparent.Goals as goal

-- ---- the star's numbers

ra_held : (s : Star) → star_refused s ≡ false → to_z w64 (of_z w64 s.ra) ≡ s.ra
ra_held s h = to_z-of_z (fits64 s.ra (omega (arith, (star_ranges s h).ra_le)))

declination_held : (s : Star) → star_refused s ≡ false → to_z w64 (of_z w64 s.declination) ≡ s.declination
declination_held s h = to_z-of_z (fits64 s.declination (omega (arith, (star_ranges s h).declination_le)))

ra_motion_held : (s : Star) → star_refused s ≡ false → to_z w32 (of_z w32 s.ra_motion) ≡ s.ra_motion
ra_motion_held s h = to_z-of_z (fits32 s.ra_motion (omega (arith, (star_ranges s h).ra_motion_le)))

declination_motion_held : (s : Star) → star_refused s ≡ false
    → to_z w32 (of_z w32 s.declination_motion) ≡ s.declination_motion
declination_motion_held s h =
    to_z-of_z (fits32 s.declination_motion (omega (arith, (star_ranges s h).declination_motion_le)))

-- ---- step 1

abbrev ra : Night → Star → ℤ
ra n s = moved n.tt s.ra s.ra_motion

abbrev declination : Night → Star → ℤ
declination n s = moved n.tt s.declination s.declination_motion

-- as `moved` answered them, of the instant that stands in the night
ra_is : (n : Night) (s : Star) {m : Night} {z : ℤ} → star_refused s ≡ false → m ≡ n → to_z w64 (of_z w64 z) ≡ z
    → z ≡ moved m.tt (to_z w64 (of_z w64 s.ra)) (to_z w32 (of_z w32 s.ra_motion)) → to_z w64 (of_z w64 z) ≡ ra n s
ra_is n s h i held e = held ∙ rw (i, ra_held s h, ra_motion_held s h) at e

declination_is : (n : Night) (s : Star) {m : Night} {z : ℤ} → star_refused s ≡ false → m ≡ n → to_z w64 (of_z w64 z) ≡ z
    → z ≡ moved m.tt (to_z w64 (of_z w64 s.declination)) (to_z w32 (of_z w32 s.declination_motion))
    → to_z w64 (of_z w64 z) ≡ declination n s
declination_is n s h i held e = held ∙ rw (i, declination_held s h, declination_motion_held s h) at e

-- ---- steps 2 to 5

abbrev second : Night → Star → Direction
second n s = directed (ra n s) (declination n s)

second_is : (c : goal.After-directed-v) → c.directed-v.result ≡ second c.args.n c.args.s
second_is c =
    let n = c.args.n in
    let s = c.args.s in
    rw (
      ra_is n s c.requires c.n.view_is (held64 c.moved.result c.moved.type_inv) c.moved.ensures,
      declination_is n s c.requires c.n.view_is (held64 c.moved-2.result c.moved-2.type_inv) c.moved-2.ensures,
    )
    at c.directed-v.ensures

second_accepted : (n : Night) (s : Star) → Accepted (squares (second n s))
second_accepted n s = directed_accepted (ra n s) (declination n s)

abbrev third : Night → Star → Direction
third n s = precessed n (second n s)

third_is : (c : goal.After-precessed) → c.precessed.result ≡ third c.args.n c.args.s
third_is c = c.precessed.ensures ∙ ap (precessed _) (second_is c.before)

fits : (c : goal.After-directed-v) → NightFits c.args.n
fits c = rw c.n.view_is at c.n.invariant

abbrev fourth : Night → Star → Direction
fourth n s = aberrated n (third n s)

fourth_is : (c : goal.After-aberrated) → c.aberrated.result ≡ fourth c.args.n c.args.s
fourth_is c = c.aberrated.ensures ∙ ap (aberrated _) (third_is c.before)

pub returns-clause-value : goal.returns-clause-value
unfolding apparent
returns-clause-value c = c.nutated.ensures ∙ ap (nutated _) (fourth_is c.before)

pub returns-clause-accepted : goal.returns-clause-accepted
returns-clause-accepted c =
    rw (returns-clause-value c) (apparent_accepted c.args.n (rw c.n.view_is at c.n.invariant) c.args.s)

-- ---- what each operation and call asks

pub moved-requires : goal.moved-requires
moved-requires c =
    let k = star_ranges c.args.s c.requires in
    rw (ra_held c.args.s c.requires, ra_motion_held c.args.s c.requires) (record {
      instant = c.n.invariant.instant;
      angle_le = omega (arith, k.ra_le);
      motion_le = omega (arith, k.ra_motion_le);
    })

pub moved-requires-2 : goal.moved-requires-2
moved-requires-2 c =
    let k = star_ranges c.args.s c.requires in
    rw (declination_held c.args.s c.requires, declination_motion_held c.args.s c.requires) (record {
      instant = c.n.invariant.instant;
      angle_le = omega (arith, k.declination_le);
      motion_le = omega (arith, k.declination_motion_le);
    })

pub directed-v-requires : goal.directed-v-requires
directed-v-requires c =
    let s = c.args.s in
    let k = star_ranges s c.requires in
    let n = c.args.n in
    let instant = (rw c.n.view_is at c.n.invariant).instant in
    rw (
      ra_is n s c.requires c.n.view_is (held64 c.moved.result c.moved.type_inv) c.moved.ensures,
      declination_is n s c.requires c.n.view_is (held64 c.moved-2.result c.moved-2.type_inv) c.moved-2.ensures,
    ) (record {
      ra_le = omega (arith, moved_le n.tt s.ra s.ra_motion instant k.ra_le k.ra_motion_le);
      declination_le = omega (
        arith,
        moved_le n.tt s.declination s.declination_motion instant (omega (arith, k.declination_le)) k.declination_motion_le,
      );
    })

pub precessed-requires : goal.precessed-requires
precessed-requires c = rw (second_is c) (second_accepted c.args.n c.args.s)

pub aberrated-requires : goal.aberrated-requires
aberrated-requires c =
    rw (third_is c) (precessed_accepted c.args.n (fits c.before) _ (second_accepted c.args.n c.args.s))

pub nutated-requires : goal.nutated-requires
nutated-requires c =
    let h = fits c.before.before in
    rw (fourth_is c) (aberrated_accepted c.args.n h _ (precessed_accepted c.args.n h _ (second_accepted c.args.n c.args.s)))
