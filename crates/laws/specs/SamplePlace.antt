-- Two places worked out by the rules alone, to the last unit, in the night of `SampleNight`: of Sirius, which README's
-- program prints, and of the star at the equinox.
use Rattle.std.specs.Prelude.{◌≡◌, refl, false, Ok, Some}
use Rattle.std.proofs.Common.{ap, ◌∙◌}
use Rattle.rules.specs.declared.Direction.{Direction}
use Rattle.rules.specs.declared.Star.{Star}
use Rattle.rules.specs.declared.Site.{Site}
use Rattle.rules.specs.declared.Night.{Night}
use Rattle.rules.specs.declared.Place.{Place}
use Rattle.rules.specs.Units.{+◌, −◌, same}
use Rattle.rules.specs.Rounding.{rnd, rnd_size, modulo, remainder}
use Rattle.rules.specs.Length.{root_from, root, square, pair_squares, squares, part_to, pair_to_length, to_length}
use Rattle.rules.specs.Circle.{radian_parts, square_parts, stage, stages, raw_sine, raw_cosine, pair_of_parts, pair_to_half}
use Rattle.rules.specs.Circle.{exchanged_pair, pair_to_quarter, in_quarter, folded, pair}
use Rattle.rules.specs.Turning.{turn3, exchanged, turn1, turn2, turn_about, turn_by}
use Rattle.rules.specs.Reading.{arc_stage, arc_stages, arc, in_microarcseconds, flat, tangent, angle_to_half}
use Rattle.rules.specs.Reading.{angle_to_quarter, by_signs, not_circle, angle_of, reading}
use Rattle.rules.specs.Heights.{as_height, height}
use Rattle.rules.specs.Night.{night, site_refused}
use Rattle.rules.specs.Stars.{star_refused}
use Rattle.rules.specs.Place.{moved, directed, precessed, aberrated, nutated, apparent, overhead, readings, place_in}
use Rattle.rules.specs.Place.{place_at, place}
use Rattle.laws.specs.SampleNight.{evening, ut_now, tt_now, evening_is, direction, tonight}

-- ---- the six steps

-- what the steps of a star come to: v2 is the direction after steps 1 and 2, v3 after step 3, and so on
pub record Steps (n : Night) (s : Star) (v2 v3 v4 v5 v6 : Direction) (p : Place) : Type 0 where
  pub step2 : directed (moved n.tt s.ra s.ra_motion)
      (moved n.tt s.declination s.declination_motion) ≡ v2
  pub step3 : precessed n v2 ≡ v3
  pub step4 : aberrated n v3 ≡ v4
  pub step5 : nutated n v4 ≡ v5
  pub step6 : overhead n v5 ≡ v6
  pub read : readings v5 v6 ≡ p

pub place_of_steps : (n : Night) (s : Star) {v2 v3 v4 v5 v6 : Direction} {p : Place} → Steps n s v2 v3 v4 v5 v6 p
    → place_in n s ≡ p
unfolding place_in apparent
place_of_steps n s {v5 = v5} h =
    ap (λ v. seen (nutated n (aberrated n (precessed n v)))) h.step2
    ∙ ap (λ v. seen (nutated n (aberrated n v))) h.step3
    ∙ ap (λ v. seen (nutated n v)) h.step4
    ∙ ap seen h.step5
    ∙ ap (readings v5) h.step6
    ∙ h.read
  where
    seen : Direction → Place
    seen v = readings v (overhead n v)

-- a star that is accepted, at a site that is
pub stands : (site : Site) (n : Night) (s : Star) {p : Place} → site_refused site ≡ false
    → night ut_now tt_now site ≡ n → star_refused s ≡ false → place_in n s ≡ p → place evening s site ≡ Ok p
unfolding place place_at
stands site n s k e h f = ap (λ i. place_at i s site) evening_is
    ∙ rw (k, h)
    (ap (λ n. Ok (place_in n s)) e
    ∙ ap Ok f)

-- ---- two stars

abbrev pub sirius : Star
sirius = record {
  ra = + 364633759200;
  declination = − 60178017100;
  ra_motion = − 570102;
  declination_motion = − 1223070;
}

-- at the equinox, without a motion
abbrev pub equinox : Star
equinox = record { ra = + 0; declination = + 0; ra_motion = + 0; declination_motion = + 0 }

-- its place
abbrev pub sirius_place : Place
sirius_place = record {
  ra = Some (+ 365681806136);
  declination = − 60318907174;
  azimuth = Some (+ 760999294392);
  altitude = + 63789291757;
}

-- its place
abbrev pub equinox_place : Place
equinox_place = record {
  ra = Some (+ 1196050306);
  declination = + 519739595;
  azimuth = Some (+ 1098507954979);
  altitude = − 91944771011;
}

pub sirius_steps : Steps tonight sirius
    (direction (− 201196050) (+ 1008444631) (− 309000131))
    (direction (− 206317076) (+ 1007250048) (− 309519161))
    (direction (− 206333694) (+ 1007226495) (− 309584724))
    (direction (− 206357659) (+ 1007234521) (− 309542633))
    (direction (+ 873119251) (− 532717789) (+ 326796628))
    sirius_place
unfolding rnd rnd_size modulo remainder root_from root square squares part_to to_length radian_parts square_parts stage
    stages raw_sine raw_cosine pair_squares pair_to_length pair_of_parts pair_to_half exchanged_pair pair_to_quarter in_quarter
    folded pair same turn3 exchanged turn1 turn2 turn_about turn_by moved directed precessed aberrated nutated overhead
    readings arc_stage arc_stages arc in_microarcseconds flat tangent angle_to_half angle_to_quarter by_signs not_circle
    angle_of reading as_height height
sirius_steps = record {
  step2 = refl;
  step3 = refl;
  step4 = refl;
  step5 = refl;
  step6 = refl;
  read = refl;
}

pub equinox_steps : Steps tonight equinox
    (direction (+ 1073741824) (+ 0) (+ 0))
    (direction (+ 1073719888) (+ 6295066) (+ 2735119))
    (direction (+ 1073720567) (+ 6196808) (+ 2692526))
    (direction (+ 1073720364) (+ 6226162) (+ 2705578))
    (direction (− 557644370) (− 792239101) (− 462937869))
    equinox_place
unfolding rnd rnd_size modulo remainder root_from root square squares part_to to_length radian_parts square_parts stage
    stages raw_sine raw_cosine pair_squares pair_to_length pair_of_parts pair_to_half exchanged_pair pair_to_quarter in_quarter
    folded pair same turn3 exchanged turn1 turn2 turn_about turn_by moved directed precessed aberrated nutated overhead
    readings arc_stage arc_stages arc in_microarcseconds flat tangent angle_to_half angle_to_quarter by_signs not_circle
    angle_of reading as_height height
equinox_steps = record {
  step2 = refl;
  step3 = refl;
  step4 = refl;
  step5 = refl;
  step6 = refl;
  read = refl;
}
