-- Dates, times and instants made of plain numbers, for the contracts of inner functions.
use Rattle.std.specs.Prelude.{ℤ, pos, ◌+ℤ◌, ◌-ℤ◌, ◌*ℤ◌}
use Rattle.rules.specs.declared.Date.{Date}
use Rattle.rules.specs.declared.Time.{Time}
use Rattle.rules.specs.declared.Instants.{Instants}
use Rattle.rules.specs.Dates.{tai_minus_utc, ut_and_tt}

abbrev pub date_of_parts : ℤ → ℤ → ℤ → Date
date_of_parts y m d = record { year = y; month = m; day = d }

abbrev pub time_of_parts : ℤ → ℤ → ℤ → ℤ → Time
time_of_parts h m s ms = record { hour = h; minute = m; second = s; ms = ms }

-- `utc`, on day n, at ms of day t
abbrev pub utc_at : ℤ → ℤ → ℤ
utc_at n t = n *ℤ pos 86400000 +ℤ t -ℤ pos 43200000

-- UT and TT on day n, at ms of day t, with UT1−UTC
abbrev pub instants_at : ℤ → ℤ → ℤ → Instants
instants_at n t ut1_minus_utc =
    ut_and_tt (record { 0 = utc_at n t +ℤ ut1_minus_utc })
    (record { 0 = utc_at n t +ℤ (pos 32184 +ℤ pos 1000 *ℤ pos (tai_minus_utc n)) })
