-- Worked cases of change C-22, as one list under one claim: the ends, and both sides of an added second.
use Rattle.std.specs.Prelude.{◌≡◌, refl, ℕ, ℤ, pos, Result, Ok, Err}
use Rattle.rules.specs.Data.{Tt, Refusal, Utc}
use Rattle.rules.specs.Units.{+◌, −◌, same, between}
use Rattle.rules.specs.Years.{leap, months, sum, up_from, years, fall}
use Rattle.rules.specs.Calendar.{days_before2000, day_count, day_number, date_of_count}
use Rattle.rules.specs.Dates.{tai_minus_utc, ms_of_day, utc, tt_of}
use Rattle.rules.specs.Utc.{tt_of_utc, stretch_refused, tai_minus_utc_at, in_second60, ms_of_span, days_of_span}
use Rattle.rules.specs.Utc.{minutes_of_day, time_of_ms, utc_at, utc_of_tt}

abbrev tt : ℤ → Tt
tt t = record { 0 = t }

abbrev at : ℕ → ℕ → ℕ → ℕ → ℕ → ℕ → ℕ → Result Utc Refusal
at y m d h mi s ms = Ok record {
  date = record { year = pos y; month = pos m; day = pos d };
  time = record { hour = pos h; minute = pos mi; second = pos s; ms = pos ms };
}

pub record UtcCases : Type 0 where
  -- the stretch, ends included
  pub before_the_first : utc_of_tt (tt (− 883655957817)) ≡ Err Refusal.Stretch
  pub first : utc_of_tt (tt (− 883655957816)) ≡ at 1972 1 1 0 0 0 0
  pub last : utc_of_tt (tt (+ 3155716869183)) ≡ at 2099 12 31 23 59 59 999
  pub after_the_last : utc_of_tt (tt (+ 3155716869184)) ≡ Err Refusal.Stretch
  -- J2000.0 is 64.184 s before noon
  pub j2000 : utc_of_tt (tt (+ 0)) ≡ at 2000 1 1 11 58 55 816
  -- the added second of 2016, ms by ms at its two ends
  pub last_of_second_59 : utc_of_tt (tt (+ 536500868183)) ≡ at 2016 12 31 23 59 59 999
  pub first_of_second_60 : utc_of_tt (tt (+ 536500868184)) ≡ at 2016 12 31 23 59 60 0
  pub last_of_second_60 : utc_of_tt (tt (+ 536500869183)) ≡ at 2016 12 31 23 59 60 999
  pub first_of_the_step : utc_of_tt (tt (+ 536500869184)) ≡ at 2017 1 1 0 0 0 0

pub utc_cases : UtcCases
unfolding same between leap months sum up_from years fall days_before2000 day_count day_number date_of_count
    tai_minus_utc ms_of_day utc tt_of tt_of_utc stretch_refused tai_minus_utc_at in_second60 ms_of_span days_of_span minutes_of_day
    time_of_ms utc_at utc_of_tt
utc_cases = record {
  before_the_first = refl;
  first = refl;
  last = refl;
  after_the_last = refl;
  j2000 = refl;
  last_of_second_59 = refl;
  first_of_second_60 = refl;
  last_of_second_60 = refl;
  first_of_the_step = refl;
}
