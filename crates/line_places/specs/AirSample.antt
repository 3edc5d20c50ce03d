-- What the program prints for the two stars of PlacesSample.antt with pressure and temperature, worked out by the rules
-- alone, byte for byte: Sirius is lifted, and the star at the equinox stands too low.
use Rattle.std.specs.Prelude.{◌≡◌, refl, true, false, List, [], ◌∷◌, ◌++◌, ℕ, Option, Some}
use Rattle.std.proofs.Common.{◌∙◌}
use Rattle.rules.specs.Units.{+◌, −◌, between}
use Rattle.rules.specs.Rounding.{rnd, rnd_size, modulo}
use Rattle.rules.specs.Length.{root_from, root, square, pair_squares, part_to, pair_to_length}
use Rattle.rules.specs.Circle.{radian_parts, square_parts, stage, stages, raw_sine, raw_cosine, pair_of_parts}
use Rattle.rules.specs.Circle.{pair_to_half, exchanged_pair, pair_to_quarter, in_quarter, folded, pair}
use Rattle.rules.specs.NightList.{filled}
use Rattle.rules.specs.Refraction.{argument, not_below_nought, lift_of, standard_lift, in_weather, is_lifted, lift_at}
use Rattle.rules.specs.Bytes.{same_bytes}
use Rattle.rules.specs.Numerals.{is_digit, alike, of_form, negative, unsigned, of_digits, spelled}
use Rattle.rules.specs.Times.{decimal_before, decimal, newline, ended}
use Rattle.laws.specs.Decimal.{last_digits}
use Rattle.numerals.specs.Tenths.{has_point, before_point, after_point, of_size, size_of, of_tenths, tenths_of}
use Rattle.sexagesimal.specs.Sexagesimal.{marked, clock, sexagesimal, round_in, hours, bearing, sign_of, elevation}
use Rattle.line_entries.specs.EntryLine.{or_dash, two, equatorial, horizontal, plain_angles, people_angles, entry_line}
use Rattle.line_entries.specs.Observed.{observed_of, observed_column}
use Rattle.line_entries.specs.declared.air.Air.{Air}
use Rattle.line_places.specs.Air.{air_accepted}
use Rattle.line_places.specs.Answers.{line_in}
use Rattle.line_places.specs.Program.{header, header_in, places, people_word, with_air, command_of}
use Rattle.line_places.specs.PlacesSample.{sample_input, sample_file, sirius_entry, equinox_entry, printed}
use Rattle.line_places.specs.Air.{command_for, air_of}

-- `1013.2` and `-10.5`
abbrev pressure : List ℕ
pressure = 49 ∷ 48 ∷ 49 ∷ 51 ∷ 46 ∷ 50 ∷ []

abbrev temperature : List ℕ
temperature = 45 ∷ 49 ∷ 48 ∷ 46 ∷ 53 ∷ []

abbrev air : Option Air
air = Some (air_of (+ 10132) (− 105))

-- `0 0 365681806136 -60318907174 760999294392 63789291757 63990955932`,
-- `1 0 1196050306 519739595 1098507954979 -91944771011 -91944771011`
abbrev pub air_output : List ℕ
air_output = header ++ 32 ∷ 111 ∷ 98 ∷ 115 ∷ newline ∷
    48 ∷ 32 ∷ 48 ∷ 32 ∷ 51 ∷ 54 ∷ 53 ∷ 54 ∷ 56 ∷ 49 ∷ 56 ∷ 48 ∷ 54 ∷ 49 ∷ 51 ∷ 54 ∷ 32 ∷ 45 ∷ 54 ∷ 48 ∷ 51 ∷ 49 ∷ 56
    ∷ 57 ∷ 48 ∷ 55 ∷ 49 ∷ 55 ∷ 52 ∷ 32 ∷ 55 ∷ 54 ∷ 48 ∷ 57 ∷ 57 ∷ 57 ∷ 50 ∷ 57 ∷ 52 ∷ 51 ∷ 57 ∷ 50 ∷ 32 ∷ 54 ∷ 51 ∷ 55
    ∷ 56 ∷ 57 ∷ 50 ∷ 57 ∷ 49 ∷ 55 ∷ 53 ∷ 55 ∷ 32 ∷ 54 ∷ 51 ∷ 57 ∷ 57 ∷ 48 ∷ 57 ∷ 53 ∷ 53 ∷ 57 ∷ 51 ∷ 50 ∷ 10 ∷ 49 ∷ 32
    ∷ 48 ∷ 32 ∷ 49 ∷ 49 ∷ 57 ∷ 54 ∷ 48 ∷ 53 ∷ 48 ∷ 51 ∷ 48 ∷ 54 ∷ 32 ∷ 53 ∷ 49 ∷ 57 ∷ 55 ∷ 51 ∷ 57 ∷ 53 ∷ 57 ∷ 53 ∷ 32
    ∷ 49 ∷ 48 ∷ 57 ∷ 56 ∷ 53 ∷ 48 ∷ 55 ∷ 57 ∷ 53 ∷ 52 ∷ 57 ∷ 55 ∷ 57 ∷ 32 ∷ 45 ∷ 57 ∷ 49 ∷ 57 ∷ 52 ∷ 52 ∷ 55 ∷ 55 ∷ 49
    ∷ 48 ∷ 49 ∷ 49 ∷ 32 ∷ 45 ∷ 57 ∷ 49 ∷ 57 ∷ 52 ∷ 52 ∷ 55 ∷ 55 ∷ 49 ∷ 48 ∷ 49 ∷ 49 ∷ 10 ∷ []

-- `0 0 06:46:18.79 -16:45:18.9 211:23:19.3 +17:43:09.3 +17:46:31.0`,
-- `1 0 00:01:19.74 +00:08:39.7 305:08:28.0 -25:32:24.8 -25:32:24.8`
abbrev pub air_people_output : List ℕ
air_people_output = header ++ 32 ∷ 111 ∷ 98 ∷ 115 ∷ newline ∷
    48 ∷ 32 ∷ 48 ∷ 32 ∷ 48 ∷ 54 ∷ 58 ∷ 52 ∷ 54 ∷ 58 ∷ 49 ∷ 56 ∷ 46 ∷ 55 ∷ 57 ∷ 32 ∷ 45 ∷ 49 ∷ 54 ∷ 58 ∷ 52 ∷ 53 ∷ 58
    ∷ 49 ∷ 56 ∷ 46 ∷ 57 ∷ 32 ∷ 50 ∷ 49 ∷ 49 ∷ 58 ∷ 50 ∷ 51 ∷ 58 ∷ 49 ∷ 57 ∷ 46 ∷ 51 ∷ 32 ∷ 43 ∷ 49 ∷ 55 ∷ 58 ∷ 52 ∷ 51
    ∷ 58 ∷ 48 ∷ 57 ∷ 46 ∷ 51 ∷ 32 ∷ 43 ∷ 49 ∷ 55 ∷ 58 ∷ 52 ∷ 54 ∷ 58 ∷ 51 ∷ 49 ∷ 46 ∷ 48 ∷ 10 ∷ 49 ∷ 32 ∷ 48 ∷ 32 ∷ 48
    ∷ 48 ∷ 58 ∷ 48 ∷ 49 ∷ 58 ∷ 49 ∷ 57 ∷ 46 ∷ 55 ∷ 52 ∷ 32 ∷ 43 ∷ 48 ∷ 48 ∷ 58 ∷ 48 ∷ 56 ∷ 58 ∷ 51 ∷ 57 ∷ 46 ∷ 55 ∷ 32
    ∷ 51 ∷ 48 ∷ 53 ∷ 58 ∷ 48 ∷ 56 ∷ 58 ∷ 50 ∷ 56 ∷ 46 ∷ 48 ∷ 32 ∷ 45 ∷ 50 ∷ 53 ∷ 58 ∷ 51 ∷ 50 ∷ 58 ∷ 50 ∷ 52 ∷ 46 ∷ 56
    ∷ 32 ∷ 45 ∷ 50 ∷ 53 ∷ 58 ∷ 51 ∷ 50 ∷ 58 ∷ 50 ∷ 52 ∷ 46 ∷ 56 ∷ 10 ∷ []

-- ---- the words

pub sample_command : command_of 4 pressure temperature [] ≡ Some (command_for false air)
unfolding command_of with_air of_tenths tenths_of of_size size_of has_point before_point after_point is_digit alike of_form
    negative unsigned of_digits spelled
sample_command = refl

pub sample_command_for_people : command_of 5 people_word pressure temperature ≡ Some (command_for true air)
unfolding command_of with_air of_tenths tenths_of of_size size_of has_point before_point after_point is_digit alike of_form
    negative unsigned of_digits spelled same_bytes
sample_command_for_people = refl

-- ---- the lift

sirius_seen : observed_of (+ 10132) (− 105) sirius_entry ≡ + 63990955932
unfolding observed_of filled lift_at is_lifted in_weather standard_lift lift_of not_below_nought argument between rnd rnd_size
    modulo root_from root square pair_squares part_to pair_to_length radian_parts square_parts stage stages raw_sine raw_cosine
    pair_of_parts pair_to_half exchanged_pair pair_to_quarter in_quarter folded pair
sirius_seen = refl

equinox_seen : observed_of (+ 10132) (− 105) equinox_entry ≡ − 91944771011
unfolding observed_of filled lift_at is_lifted between
equinox_seen = refl

-- ---- all that is printed

pub sample_with_air : places false air sample_file sample_input ≡ air_output
unfolding header_in line_in observed_column air_accepted between ended entry_line plain_angles two or_dash decimal
    decimal_before
sample_with_air = printed false air refl ∙ rw (sirius_seen, equinox_seen)

pub sample_with_air_for_people : places true air sample_file sample_input ≡ air_people_output
unfolding header_in line_in observed_column air_accepted between ended entry_line people_angles equatorial horizontal or_dash
    hours bearing elevation round_in sign_of sexagesimal clock marked last_digits rnd rnd_size modulo decimal decimal_before
sample_with_air_for_people = printed true air refl ∙ rw (sirius_seen, equinox_seen)
