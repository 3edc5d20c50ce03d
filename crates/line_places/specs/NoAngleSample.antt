-- What the program prints for the two stars of `laws/specs/SampleNoAngle.antt`, each of which lacks an angle, byte for
-- byte.
use Rattle.std.specs.Prelude.{◌≡◌, refl, Bool, true, false, List, [], ◌∷◌, ℕ, Ok, None}
use Rattle.std.proofs.Common.{◌∙◌}
use Rattle.rules.specs.declared.Star.{Star}
use Rattle.rules.specs.declared.Place.{Place}
use Rattle.rules.specs.declared.Night.{Night}
use Rattle.rules.specs.Units.{between, within}
use Rattle.rules.specs.Rounding.{rnd, rnd_size, modulo}
use Rattle.rules.specs.Answers.{has_angle, or_nought}
use Rattle.rules.specs.Stars.{star_refused}
use Rattle.rules.specs.Place.{place_in}
use Rattle.rules.specs.ListReading.{fresh_entry}
use Rattle.rules.specs.NightList.{mark_of, angles_of, entry_of, worked}
use Rattle.rules.specs.Times.{decimal_before, decimal}
use Rattle.laws.specs.Decimal.{last_digits}
use Rattle.laws.specs.SampleNight.{tonight}
use Rattle.laws.specs.SampleNoAngle.{pole_star, pole_place}
use Rattle.laws.proofs.SampleNoAngle.{pole_place_lem}
use Rattle.laws.specs.SampleNoAngle.{zenith_night, zenith_star, zenith_place}
use Rattle.laws.proofs.SampleNoAngle.{zenith_place_lem}
use Rattle.sexagesimal.specs.Sexagesimal.{marked, clock, sexagesimal, round_in, hours, bearing, sign_of, elevation}
use Rattle.line_entries.specs.EntryLine.{or_dash, two, equatorial, horizontal, plain_angles, people_angles, entry_line}
use Rattle.line_places.specs.Answers.{line_in, star_line}

-- a star that is accepted has the line of its place
line_of : (people : Bool) (n : Night) (index : ℕ) (s : Star) (p : Place) → star_refused s ≡ false → place_in n s ≡ p
    → star_line people None n index (Ok s) ≡ entry_line people index (entry_of s p)
unfolding star_line line_in worked fresh_entry
line_of people n index s p h e = rw (h, e)

-- `0 1 - 324000000000 0 180315999951`: no right ascension, and an azimuth of nought
abbrev pub pole_line : List ℕ
pole_line =
    48 ∷ 32 ∷ 49 ∷ 32 ∷ 45 ∷ 32 ∷ 51 ∷ 50 ∷ 52 ∷ 48 ∷ 48 ∷ 48 ∷ 48 ∷ 48 ∷ 48 ∷ 48 ∷ 48 ∷ 48 ∷ 32 ∷ 48 ∷ 32 ∷ 49
    ∷ 56 ∷ 48 ∷ 51 ∷ 49 ∷ 53 ∷ 57 ∷ 57 ∷ 57 ∷ 57 ∷ 53 ∷ 49 ∷ []

pub pole_printed : star_line false None tonight 0 (Ok pole_star) ≡ pole_line
unfolding star_refused between within has_angle or_nought mark_of angles_of entry_of entry_line plain_angles two or_dash decimal
    decimal_before
pole_printed = line_of false tonight 0 pole_star pole_place refl pole_place_lem ∙ refl

-- `1 1 08:51:08.43 +50:05:15.0 - +90:00:00.0`: no azimuth
abbrev pub zenith_line : List ℕ
zenith_line =
    49 ∷ 32 ∷ 49 ∷ 32 ∷ 48 ∷ 56 ∷ 58 ∷ 53 ∷ 49 ∷ 58 ∷ 48 ∷ 56 ∷ 46 ∷ 52 ∷ 51 ∷ 32 ∷ 43 ∷ 53 ∷ 48 ∷ 58 ∷ 48 ∷ 53
    ∷ 58 ∷ 49 ∷ 53 ∷ 46 ∷ 48 ∷ 32 ∷ 45 ∷ 32 ∷ 43 ∷ 57 ∷ 48 ∷ 58 ∷ 48 ∷ 48 ∷ 58 ∷ 48 ∷ 48 ∷ 46 ∷ 48 ∷ []

pub zenith_printed : star_line true None zenith_night 1 (Ok zenith_star) ≡ zenith_line
unfolding star_refused between within has_angle or_nought mark_of angles_of entry_of entry_line people_angles equatorial
    horizontal or_dash hours bearing elevation round_in sign_of sexagesimal clock marked last_digits rnd rnd_size modulo
    decimal decimal_before
zenith_printed = line_of true zenith_night 1 zenith_star zenith_place refl zenith_place_lem ∙ refl
