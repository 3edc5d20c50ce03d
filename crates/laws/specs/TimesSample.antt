-- The sample of document 01, byte for byte: what `times` prints for its three lines.
use Rattle.std.specs.Prelude.{◌≡◌, refl, List, [], ◌∷◌, ℕ}
use Rattle.rules.specs.Units.{same, between, within}
use Rattle.rules.specs.Refusals.{number}
use Rattle.rules.specs.Years.{leap, months, sum, up_from, years}
use Rattle.rules.specs.Calendar.{days_before2000, day_count, day_number}
use Rattle.rules.specs.Calendar.{year_refused, month_days, day_refused}
use Rattle.rules.specs.Dates.{tai_minus_utc, before_step, last_second, time_refused, ms_of_day, utc, ut_of, tt_of}
use Rattle.rules.specs.Dates.{ut1_minus_utc_refused, instants}
use Rattle.rules.specs.Numerals.{is_digit, alike, of_form, negative, unsigned, of_digits, of_number, spelled, field}
use Rattle.rules.specs.Numerals.{signed}
use Rattle.rules.specs.Lines.{moment, line_of}
use Rattle.rules.specs.Times.{decimal_before, decimal, refused_line, three_numbers, answer_line}
use Rattle.rules.specs.Times.{printed, before, lines_of, ended, times}

-- `2000-01-01 12:00:00.000 0`, `2016-12-31 23:59:60.500 -400`, `2015-12-31 23:59:60.000 0`
abbrev pub sample_input : List ℕ
sample_input =
    50 ∷ 48 ∷ 48 ∷ 48 ∷ 45 ∷ 48 ∷ 49 ∷ 45 ∷ 48 ∷ 49 ∷ 32
    ∷ 49 ∷ 50 ∷ 58 ∷ 48 ∷ 48 ∷ 58 ∷ 48 ∷ 48 ∷ 46 ∷ 48 ∷ 48 ∷ 48 ∷ 32 ∷ 48 ∷ 10
    ∷ 50 ∷ 48 ∷ 49 ∷ 54 ∷ 45 ∷ 49 ∷ 50 ∷ 45 ∷ 51 ∷ 49 ∷ 32
    ∷ 50 ∷ 51 ∷ 58 ∷ 53 ∷ 57 ∷ 58 ∷ 54 ∷ 48 ∷ 46 ∷ 53 ∷ 48 ∷ 48 ∷ 32 ∷ 45 ∷ 52 ∷ 48 ∷ 48 ∷ 10
    ∷ 50 ∷ 48 ∷ 49 ∷ 53 ∷ 45 ∷ 49 ∷ 50 ∷ 45 ∷ 51 ∷ 49 ∷ 32
    ∷ 50 ∷ 51 ∷ 58 ∷ 53 ∷ 57 ∷ 58 ∷ 54 ∷ 48 ∷ 46 ∷ 48 ∷ 48 ∷ 48 ∷ 32 ∷ 48 ∷ 10 ∷ []

-- `day ut tt`, `0 0 64184`, `6209 536500800100 536500868684`, `refused 3`
abbrev pub sample_output : List ℕ
sample_output =
    100 ∷ 97 ∷ 121 ∷ 32 ∷ 117 ∷ 116 ∷ 32 ∷ 116 ∷ 116 ∷ 10
    ∷ 48 ∷ 32 ∷ 48 ∷ 32 ∷ 54 ∷ 52 ∷ 49 ∷ 56 ∷ 52 ∷ 10
    ∷ 54 ∷ 50 ∷ 48 ∷ 57 ∷ 32
    ∷ 53 ∷ 51 ∷ 54 ∷ 53 ∷ 48 ∷ 48 ∷ 56 ∷ 48 ∷ 48 ∷ 49 ∷ 48 ∷ 48 ∷ 32 ∷ 53 ∷ 51 ∷ 54 ∷ 53 ∷ 48 ∷ 48 ∷ 56 ∷ 54 ∷ 56 ∷ 54
    ∷ 56 ∷ 52 ∷ 10
    ∷ 114 ∷ 101 ∷ 102 ∷ 117 ∷ 115 ∷ 101 ∷ 100 ∷ 32 ∷ 51 ∷ 10 ∷ []

pub sample : times sample_input ≡ sample_output
unfolding same between within number leap months sum up_from years days_before2000 day_count day_number year_refused
    month_days
    day_refused tai_minus_utc before_step last_second time_refused ms_of_day utc ut_of tt_of ut1_minus_utc_refused instants is_digit
    alike of_form negative unsigned of_digits of_number spelled field signed moment line_of decimal_before decimal
    refused_line three_numbers answer_line printed before lines_of ended times
sample = refl
