-- Worked cases of change C-12, as one list under one claim: what has no angle, and what the night list makes of it.
use Rattle.std.specs.Prelude.{◌≡◌, refl, [], ◌∷◌, Ok, Some, None}
use Rattle.rules.specs.Data.{Star, Place, Entry}
use Rattle.rules.specs.Units.{+◌, −◌}
use Rattle.rules.specs.Rounding.{rnd, rnd_size}
use Rattle.rules.specs.Circle.{square_parts}
use Rattle.rules.specs.Refusals.{given}
use Rattle.rules.specs.Answers.{has_angle, or_nought, flag, place_numbers, placed_answer}
use Rattle.rules.specs.Reading.{arc_stage, arc_stages, arc, in_microarcseconds, flat, tangent, angle_to_half}
use Rattle.rules.specs.Reading.{angle_to_quarter, by_signs, not_circle, angle_of, reading}
use Rattle.rules.specs.NightList.{mark_of, angles_of, entry_of, filled, marked}

abbrev star : Star
star = record { ra = + 1; declination = + 2; ra_motion = + 3; declination_motion = + 4 }

-- four kinds of place: with both, at the pole, at the zenith, and where the pole is at the zenith
abbrev both : Place
both = record { ra = Some (+ 0); declination = + 5; azimuth = Some (+ 0); altitude = + 6 }

abbrev at_pole : Place
at_pole = record { ra = None; declination = + 324000000000; azimuth = Some (+ 7); altitude = + 6 }

abbrev at_zenith : Place
at_zenith = record { ra = Some (+ 8); declination = + 5; azimuth = None; altitude = + 324000000000 }

abbrev at_both : Place
at_both = record {
  ra = None;
  declination = + 324000000000;
  azimuth = None;
  altitude = + 324000000000;
}

abbrev refused_entry : Entry
refused_entry = record {
  star = star;
  mark = 5;
  angles = record { ra = + 0; declination = + 0; azimuth = + 0; altitude = + 0 };
}

pub record NoAngleCases : Type 0 where
  -- "Reading an angle from (0, 0) shall answer that there is no angle", and from no other two numbers
  pub none_at_0_0 : reading (+ 0) (+ 0) ≡ None
  pub nought_at_1_0 : reading (+ 1) (+ 0) ≡ Some (+ 0)
  pub half_at_minus_1_0 : reading (− 1) (+ 0) ≡ Some (+ 648000000000)
  pub three_quarters_at_0_minus_1 : reading (+ 0) (− 1) ≡ Some (+ 972000000000)
  -- a right ascension of nought is no missing one
  pub both_answered : placed_answer (Ok both) ≡ given (+ 1 ∷ + 0 ∷ + 5 ∷ + 1 ∷ + 0 ∷ + 6 ∷ [])
  pub pole_answered : placed_answer (Ok at_pole) ≡ given (+ 0 ∷ + 0 ∷ + 324000000000 ∷ + 1 ∷ + 7 ∷ + 6 ∷ [])
  pub zenith_answered : placed_answer (Ok at_zenith) ≡ given (+ 1 ∷ + 8 ∷ + 5 ∷ + 0 ∷ + 0 ∷ + 324000000000 ∷ [])
  -- "mark 1, with nought in the angle that has none"
  pub both_marked : entry_of star both ≡ record {
    star = star;
    mark = 0;
    angles = record { ra = + 0; declination = + 5; azimuth = + 0; altitude = + 6 };
  }
  pub pole_marked : entry_of star at_pole ≡ record {
    star = star;
    mark = 1;
    angles = record { ra = + 0; declination = + 324000000000; azimuth = + 7; altitude = + 6 };
  }
  pub zenith_marked : entry_of star at_zenith ≡ record {
    star = star;
    mark = 1;
    angles = record { ra = + 8; declination = + 5; azimuth = + 0; altitude = + 324000000000 };
  }
  pub neither_marked : entry_of star at_both ≡ record {
    star = star;
    mark = 1;
    angles = record { ra = + 0; declination = + 324000000000; azimuth = + 0; altitude = + 324000000000 };
  }
  -- "such an entry still counts as filled"
  pub three_filled : marked (entry_of star both ∷ refused_entry ∷ entry_of star at_pole ∷ entry_of star at_zenith ∷ []) ≡ 3

pub no_angle_cases : NoAngleCases
unfolding rnd rnd_size square_parts given has_angle or_nought flag place_numbers placed_answer arc_stage arc_stages arc
    in_microarcseconds flat tangent angle_to_half angle_to_quarter by_signs not_circle angle_of reading mark_of angles_of entry_of
    filled marked
no_angle_cases = record {
  none_at_0_0 = refl;
  nought_at_1_0 = refl;
  half_at_minus_1_0 = refl;
  three_quarters_at_0_minus_1 = refl;
  both_answered = refl;
  pole_answered = refl;
  zenith_answered = refl;
  both_marked = refl;
  pole_marked = refl;
  zenith_marked = refl;
  neither_marked = refl;
  three_filled = refl;
}
