-- docs/RULES.md, "UTC of a TT instant": 02, C-22, "Give the UTC date and time for a TT instant". Definitions only.
use Rattle.std.specs.Prelude.{ℕ, ◌+◌, ◌-◌, ◌*◌, ◌/◌, ◌%◌, min, Bool, not, cond, map, eqb, ℤ, pos, nat_abs, ◌+ℤ◌, ◌-ℤ◌, Result, Ok, Err}
use Rattle.std.specs.Int.Signed.{le_z}
use Rattle.rules.specs.Data.{Tt, Date, Time, Utc, Moment, Refusal}
use Rattle.rules.specs.Units.{day, +◌, between}
use Rattle.rules.specs.Years.{first_year, last_year, sum}
use Rattle.rules.specs.Calendar.{days_before2000, date_of_count}
use Rattle.rules.specs.Dates.{first_of, steps, tt_of}

-- ---- UTC times, and their TT

-- a UTC time with its UT1−UTC, and without
abbrev pub moment_with : Utc → ℤ → Moment
moment_with u d = record { date = u.date; time = u.time; ut1_minus_utc = d }

abbrev pub utc_of : Moment → Utc
utc_of m = record { date = m.date; time = m.time }

-- its TT, in which UT1−UTC plays no part
unfoldable pub tt_of_utc : Utc → ℤ
tt_of_utc u = (tt_of (moment_with u (pos 0))).0

-- 00:00:00.000 of a date
abbrev pub first_ms : Date → Utc
first_ms d = record { date = d; time = record { hour = pos 0; minute = pos 0; second = pos 0; ms = pos 0 } }

-- ---- "over 1972 to 2099", "between the first and the last of them"

abbrev pub first_utc : Utc
first_utc = first_ms (first_of 1 first_year)

abbrev pub last_utc : Utc
last_utc = record {
  date = record { year = pos last_year; month = pos 12; day = pos 31 };
  time = record { hour = pos 23; minute = pos 59; second = pos 59; ms = pos 999 };
}

-- refusal 20: "a TT outside that stretch"
unfoldable pub stretch_refused : Tt → Bool
stretch_refused t = not (between (tt_of_utc first_utc) (tt_of_utc last_utc) t.0)

-- ---- the added seconds

-- TAI−UTC at TT t: 10 s, and one more from the first ms of each step
unfoldable pub tai_minus_utc_at : ℤ → ℕ
tai_minus_utc_at t = 10 + sum (map (λ step. cond (le_z (tt_of_utc (first_ms step)) t) 1 0) steps)

-- t is in second 60, "with its 1,000 ms": a step comes within as many
unfoldable pub in_second60 : ℤ → Bool
in_second60 t = not (eqb (tai_minus_utc_at t) (tai_minus_utc_at (t +ℤ + 1000)))

-- ---- UTC

-- "TT = day × 86,400,000 + ms of day − 43,200,000 .. plus 32,184 + 1000 × (TAI−UTC)", taken back: 86,400,000 for each
-- day of the span before, and the ms of day
unfoldable pub ms_of_span : ℤ → ℕ
ms_of_span t = nat_abs (t -ℤ pos (32184 + 1000 * tai_minus_utc_at t) +ℤ + 43200000 +ℤ pos (days_before2000 * day))

-- the days of the span before its date; second 60 is of the day that it ends
unfoldable pub days_of_span : ℤ → ℕ
days_of_span t = ms_of_span t / day - cond (in_second60 t) 1 0

-- the minutes of its day before a ms of day, which in second 60 is 86,400,000 to 86,400,999: a day has 1,440 minutes,
-- and second 60 is of the last
unfoldable pub minutes_of_day : ℕ → ℕ
minutes_of_day ms = min (ms / 60000) 1439

unfoldable pub time_of_ms : ℕ → Time
time_of_ms ms = record {
  hour = pos (minutes_of_day ms / 60);
  minute = pos (minutes_of_day ms % 60);
  second = pos ((ms - minutes_of_day ms * 60000) / 1000);
  ms = pos (ms % 1000);
}

-- the UTC time of a TT of the stretch
unfoldable pub utc_at : ℤ → Utc
utc_at t = record { date = date_of_count (days_of_span t); time = time_of_ms (ms_of_span t - days_of_span t * day) }

-- "Give the UTC date and time for a TT instant", or refusal 20
unfoldable pub utc_of_tt : Tt → Result Utc Refusal
utc_of_tt t = cond (stretch_refused t) (Err Refusal.Stretch) (Ok (utc_at t.0))
