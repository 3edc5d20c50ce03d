-- What the program prints for a list of two stars, worked out by the rules alone, byte for byte: Sirius and the star at
-- the equinox, on the evening and at the site of `laws/specs/SampleNight.antt`.
use Rattle.std.specs.Prelude.{◌≡◌, refl, Bool, true, false, List, [], ◌∷◌, ◌++◌, ℕ, Ok, Option, Some, None}
use Rattle.rules.specs.declared.Star.{Star}
use Rattle.rules.specs.declared.Place.{Place}
use Rattle.rules.specs.declared.Entry.{Entry}
use Rattle.rules.specs.Units.{+◌, −◌, between, within}
use Rattle.rules.specs.Rounding.{rnd, rnd_size, modulo}
use Rattle.rules.specs.Stars.{star_refused}
use Rattle.rules.specs.Place.{place_in}
use Rattle.rules.specs.Bytes.{of_bytes, bytes_of, signed_of, unsigned_of}
use Rattle.rules.specs.Bytes.{part, unsigned_at, signed_at, signed_bytes, same_bytes}
use Rattle.rules.specs.ListFile.{count_in, file_length, star_in, record_of, stars_in, stars, any_refused}
use Rattle.rules.specs.ListReading.{mark_refused, count_refused, list_count, fresh_entry, star_at, list_star}
use Rattle.rules.specs.ListWriting.{file_of}
use Rattle.rules.specs.Answers.{has_angle, or_nought}
use Rattle.rules.specs.NightList.{mark_of, angles_of, entry_of, worked}
use Rattle.rules.specs.Numerals.{is_digit, alike, of_form, negative, unsigned, of_digits, of_number, spelled, field, signed}
use Rattle.rules.specs.Lines.{moment, line_of}
use Rattle.rules.specs.Times.{decimal_before, decimal, newline, ended}
use Rattle.laws.specs.Decimal.{last_digits}
use Rattle.laws.specs.SampleNight.{evening, here, tonight}
use Rattle.laws.proofs.SampleNight.{made_ready}
use Rattle.laws.specs.SamplePlace.{sirius, equinox, sirius_place, equinox_place}
use Rattle.laws.proofs.SamplePlace.{sirius_place_lem, equinox_place_lem}
use Rattle.line_asked.specs.Asking.{length_before, first_word, after_word, of_site, site_in}
use Rattle.line_asked.specs.Asking.{with_site, asked_in, moment_end, asked_of}
use Rattle.sexagesimal.specs.Sexagesimal.{marked, clock, sexagesimal, round_in, hours, bearing, sign_of, elevation}
use Rattle.line_entries.specs.EntryLine.{or_dash, two, equatorial, horizontal, plain_angles, people_angles, entry_line}
use Rattle.line_entries.specs.declared.air.Air.{Air}
use Rattle.line_places.specs.Air.{air_accepted}
use Rattle.line_places.specs.Answers.{Begun, begun_in, begun_for, begun_of, in_air, begun}
use Rattle.line_places.specs.Answers.{line_in, star_line, answer_line}
use Rattle.line_places.specs.Program.{header, header_in, entry_lines, answer_lines, first_line, places}
use Rattle.line_asked.specs.Asking.{asked_for}

-- `2026-03-20 20:00:00.000 0 180316000000 51915000000`
abbrev pub sample_input : List ℕ
sample_input =
    50 ∷ 48 ∷ 50 ∷ 54 ∷ 45 ∷ 48 ∷ 51 ∷ 45 ∷ 50 ∷ 48 ∷ 32 ∷ 50 ∷ 48 ∷ 58 ∷ 48 ∷ 48 ∷ 58 ∷ 48 ∷ 48 ∷ 46 ∷ 48 ∷ 48
    ∷ 48 ∷ 32 ∷ 48 ∷ 32 ∷ 49 ∷ 56 ∷ 48 ∷ 51 ∷ 49 ∷ 54 ∷ 48 ∷ 48 ∷ 48 ∷ 48 ∷ 48 ∷ 48 ∷ 32 ∷ 53 ∷ 49 ∷ 57 ∷ 49 ∷ 53
    ∷ 48 ∷ 48 ∷ 48 ∷ 48 ∷ 48 ∷ 48 ∷ 10 ∷ []

abbrev pub sample_file : List ℕ
sample_file = file_of (sirius ∷ equinox ∷ [])

-- `0 0 365681806136 -60318907174 760999294392 63789291757`, `1 0 1196050306 519739595 1098507954979 -91944771011`
abbrev pub sample_output : List ℕ
sample_output = header ++ newline ∷
    48 ∷ 32 ∷ 48 ∷ 32 ∷ 51 ∷ 54 ∷ 53 ∷ 54 ∷ 56 ∷ 49 ∷ 56 ∷ 48 ∷ 54 ∷ 49 ∷ 51 ∷ 54 ∷ 32 ∷ 45 ∷ 54 ∷ 48 ∷ 51 ∷ 49
    ∷ 56 ∷ 57 ∷ 48 ∷ 55 ∷ 49 ∷ 55 ∷ 52 ∷ 32 ∷ 55 ∷ 54 ∷ 48 ∷ 57 ∷ 57 ∷ 57 ∷ 50 ∷ 57 ∷ 52 ∷ 51 ∷ 57 ∷ 50 ∷ 32 ∷ 54
    ∷ 51 ∷ 55 ∷ 56 ∷ 57 ∷ 50 ∷ 57 ∷ 49 ∷ 55 ∷ 53 ∷ 55 ∷ 10 ∷ 49 ∷ 32 ∷ 48 ∷ 32 ∷ 49 ∷ 49 ∷ 57 ∷ 54 ∷ 48 ∷ 53 ∷ 48
    ∷ 51 ∷ 48 ∷ 54 ∷ 32 ∷ 53 ∷ 49 ∷ 57 ∷ 55 ∷ 51 ∷ 57 ∷ 53 ∷ 57 ∷ 53 ∷ 32 ∷ 49 ∷ 48 ∷ 57 ∷ 56 ∷ 53 ∷ 48 ∷ 55 ∷ 57
    ∷ 53 ∷ 52 ∷ 57 ∷ 55 ∷ 57 ∷ 32 ∷ 45 ∷ 57 ∷ 49 ∷ 57 ∷ 52 ∷ 52 ∷ 55 ∷ 55 ∷ 49 ∷ 48 ∷ 49 ∷ 49 ∷ 10 ∷ []

-- `0 0 06:46:18.79 -16:45:18.9 211:23:19.3 +17:43:09.3`, `1 0 00:01:19.74 +00:08:39.7 305:08:28.0 -25:32:24.8`
abbrev pub people_output : List ℕ
people_output = header ++ newline ∷
    48 ∷ 32 ∷ 48 ∷ 32 ∷ 48 ∷ 54 ∷ 58 ∷ 52 ∷ 54 ∷ 58 ∷ 49 ∷ 56 ∷ 46 ∷ 55 ∷ 57 ∷ 32 ∷ 45 ∷ 49 ∷ 54 ∷ 58 ∷ 52 ∷ 53
    ∷ 58 ∷ 49 ∷ 56 ∷ 46 ∷ 57 ∷ 32 ∷ 50 ∷ 49 ∷ 49 ∷ 58 ∷ 50 ∷ 51 ∷ 58 ∷ 49 ∷ 57 ∷ 46 ∷ 51 ∷ 32 ∷ 43 ∷ 49 ∷ 55 ∷ 58
    ∷ 52 ∷ 51 ∷ 58 ∷ 48 ∷ 57 ∷ 46 ∷ 51 ∷ 10 ∷ 49 ∷ 32 ∷ 48 ∷ 32 ∷ 48 ∷ 48 ∷ 58 ∷ 48 ∷ 49 ∷ 58 ∷ 49 ∷ 57 ∷ 46 ∷ 55
    ∷ 52 ∷ 32 ∷ 43 ∷ 48 ∷ 48 ∷ 58 ∷ 48 ∷ 56 ∷ 58 ∷ 51 ∷ 57 ∷ 46 ∷ 55 ∷ 32 ∷ 51 ∷ 48 ∷ 53 ∷ 58 ∷ 48 ∷ 56 ∷ 58 ∷ 50
    ∷ 56 ∷ 46 ∷ 48 ∷ 32 ∷ 45 ∷ 50 ∷ 53 ∷ 58 ∷ 51 ∷ 50 ∷ 58 ∷ 50 ∷ 52 ∷ 46 ∷ 56 ∷ 10 ∷ []

-- ---- what the file and the line come to

file_counts : list_count sample_file ≡ Ok 2
unfolding list_count mark_refused count_refused any_refused star_refused between within count_in stars stars_in file_length
    star_in record_of file_of of_bytes bytes_of signed_of unsigned_of part unsigned_at signed_at signed_bytes same_bytes
file_counts = refl

line_asks : asked_of (first_line sample_input) ≡ Some (asked_for evening here)
unfolding asked_of asked_in with_site of_site site_in first_word after_word moment_end length_before first_line is_digit alike
    of_form negative unsigned of_digits of_number spelled field signed moment line_of
line_asks = refl

begins : (air : Option Air) → air_accepted air ≡ true → begun air sample_file (first_line sample_input) ≡ Begun.For 2 tonight
unfolding begun in_air begun_of begun_for begun_in
begins air accepted = rw (file_counts, line_asks, made_ready, accepted)

-- ---- the lines

-- the line of a star that is read, by its place as an entry
line_is : (people : Bool) (air : Option Air) (index : ℕ) (s : Star) (p : Place) (e : Entry)
    → list_star sample_file index ≡ Ok s → star_refused s ≡ false → place_in tonight s ≡ p → entry_of s p ≡ e
    → answer_line people air sample_file tonight index ≡ line_in people air index e
unfolding answer_line star_line worked fresh_entry
line_is people air index s p e i h f g = rw (i, h, f, g)

first_star : list_star sample_file 0 ≡ Ok sirius
unfolding list_star star_at star_in record_of file_of file_length of_bytes bytes_of signed_of unsigned_of part unsigned_at signed_at
    signed_bytes
first_star = rw file_counts

second_star : list_star sample_file 1 ≡ Ok equinox
unfolding list_star star_at star_in record_of file_of file_length of_bytes bytes_of signed_of unsigned_of part unsigned_at signed_at
    signed_bytes
second_star = rw file_counts

abbrev pub sirius_entry : Entry
sirius_entry = record {
  star = sirius;
  mark = 0;
  angles = record {
    ra = + 365681806136;
    declination = − 60318907174;
    azimuth = + 760999294392;
    altitude = + 63789291757;
  };
}

abbrev pub equinox_entry : Entry
equinox_entry = record {
  star = equinox;
  mark = 0;
  angles = record {
    ra = + 1196050306;
    declination = + 519739595;
    azimuth = + 1098507954979;
    altitude = − 91944771011;
  };
}

-- all that is printed, by the two lines
pub printed : (people : Bool) (air : Option Air) → air_accepted air ≡ true → places people air sample_file sample_input
    ≡ ended (header_in air ∷ line_in people air 0 sirius_entry ∷ line_in people air 1 equinox_entry ∷ [])
unfolding places answer_lines entry_lines star_refused between within entry_of mark_of angles_of has_angle or_nought
printed people air accepted = rw (
  begins air accepted,
  line_is people air 0 sirius sirius_place sirius_entry first_star refl sirius_place_lem refl,
  line_is people air 1 equinox equinox_place equinox_entry second_star refl equinox_place_lem refl,
)

pub sample : places false None sample_file sample_input ≡ sample_output
unfolding ended header_in line_in air_accepted entry_line plain_angles two or_dash decimal decimal_before
sample = printed false None refl

pub sample_for_people : places true None sample_file sample_input ≡ people_output
unfolding ended header_in line_in air_accepted entry_line people_angles equatorial horizontal or_dash hours bearing
    elevation round_in sign_of sexagesimal clock marked last_digits rnd rnd_size modulo decimal decimal_before
sample_for_people = printed true None refl
