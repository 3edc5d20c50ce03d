-- Three places worked out by the rules alone, to the last unit, on the evening of `SampleNight`, where an angle is
-- missing: a star at the pole of date, a star at the zenith, and the first again where the pole is at the zenith.
use Rattle.std.specs.Prelude.{refl, Some, None}
use Rattle.rules.specs.declared.Star.{Star}
use Rattle.rules.specs.declared.Site.{Site}
use Rattle.rules.specs.declared.Night.{Night}
use Rattle.rules.specs.declared.Place.{Place}
use Rattle.rules.specs.Units.{+◌, −◌, same}
use Rattle.rules.specs.Rounding.{rnd, rnd_size, modulo, remainder}
use Rattle.rules.specs.Length.{root_from, root, square, pair_squares, squares, part_to, pair_to_length, to_length}
use Rattle.rules.specs.Circle.{radian_parts, square_parts, stage, stages, raw_sine, raw_cosine, pair_of_parts, pair_to_half}
use Rattle.rules.specs.Circle.{exchanged_pair, pair_to_quarter, in_quarter, folded, pair}
use Rattle.rules.specs.Turning.{turn3, exchanged, turn1, turn2, turn_about, turn_by}
use Rattle.rules.specs.Reading.{arc_stage, arc_stages, arc, in_microarcseconds, flat, tangent, angle_to_half}
use Rattle.rules.specs.Reading.{angle_to_quarter, by_signs, not_circle, angle_of, reading}
use Rattle.rules.specs.Heights.{as_height, height}
use Rattle.rules.specs.Place.{moved, directed, precessed, aberrated, nutated, overhead, readings}
use Rattle.laws.specs.SampleNight.{pair_of, direction, tonight}
use Rattle.laws.specs.SampleNight.{north_of, tonight_by}
use Rattle.laws.specs.SamplePlace.{Steps}

-- ---- at the pole of date

abbrev pub pole_star : Star
pole_star = record { ra = + 10315798983; declination = + 323471053674; ra_motion = + 0; declination_motion = + 0 }

-- it stands due north: that azimuth of nought is an angle
abbrev pub pole_place : Place
pole_place = record {
  ra = None;
  declination = + 324000000000;
  azimuth = Some (+ 0);
  altitude = + 180315999951;
}

-- ---- at the zenith

-- one arcsecond south of `here`
abbrev pub zenith_site : Site
zenith_site = north_of (+ 180315000000)

abbrev pub zenith_night : Night
zenith_night = tonight_by (pair_of (+ 823587028) (− 688930993))

abbrev pub zenith_star : Star
zenith_star = record { ra = + 476318159297; declination = + 180659983868; ra_motion = + 0; declination_motion = + 0 }

abbrev pub zenith_place : Place
zenith_place = record {
  ra = Some (+ 478026476842);
  declination = + 180315000075;
  azimuth = None;
  altitude = + 324000000000;
}

-- ---- both

abbrev pub pole_site : Site
pole_site = north_of (+ 324000000000)

abbrev pub pole_night : Night
pole_night = tonight_by (pair_of (+ 1073741824) (+ 0))

abbrev pub pole_and_zenith : Place
pole_and_zenith = record {
  ra = None;
  declination = + 324000000000;
  azimuth = None;
  altitude = + 324000000000;
}

-- ---- worked out

pub record AllSteps : Type 0 where
  pub pole : Steps tonight pole_star
      (direction (+ 2750062) (+ 137652) (+ 1073738294))
      (direction (+ 14089) (+ 145755) (+ 1073741815))
      (direction (+ 12778) (+ 47488) (+ 1073741823))
      (direction (+ 0) (+ 0) (+ 1073741824))
      (direction (− 688927000) (+ 0) (+ 823590368))
      pole_place
  pub zenith : Steps zenith_night zenith_star
      (direction (− 462825547) (+ 508449636) (+ 824738132))
      (direction (− 467897836) (+ 505721316) (+ 823552713))
      (direction (− 467933307) (+ 505659960) (+ 823570235))
      (direction (− 467956988) (+ 505610690) (+ 823587028))
      (direction (+ 0) (+ 0) (+ 1073741824))
      zenith_place
  pub both : Steps pole_night pole_star
      (direction (+ 2750062) (+ 137652) (+ 1073738294))
      (direction (+ 14089) (+ 145755) (+ 1073741815))
      (direction (+ 12778) (+ 47488) (+ 1073741823))
      (direction (+ 0) (+ 0) (+ 1073741824))
      (direction (+ 0) (+ 0) (+ 1073741824))
      pole_and_zenith

pub all_steps : AllSteps
unfolding rnd rnd_size modulo remainder root_from root square squares part_to to_length radian_parts square_parts stage
    stages raw_sine raw_cosine pair_squares pair_to_length pair_of_parts pair_to_half exchanged_pair pair_to_quarter in_quarter
    folded pair same turn3 exchanged turn1 turn2 turn_about turn_by moved directed precessed aberrated nutated overhead
    readings arc_stage arc_stages arc in_microarcseconds flat tangent angle_to_half angle_to_quarter by_signs not_circle
    angle_of reading as_height height
all_steps = record {
  pole = record { step2 = refl; step3 = refl; step4 = refl; step5 = refl; step6 = refl; read = refl };
  zenith = record { step2 = refl; step3 = refl; step4 = refl; step5 = refl; step6 = refl; read = refl };
  both = record { step2 = refl; step3 = refl; step4 = refl; step5 = refl; step6 = refl; read = refl };
}
