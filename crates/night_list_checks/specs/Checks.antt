-- The checks of a night list, before an entry is worked. Definitions only.
use Rattle.std.specs.Prelude.{ℕ, cond, ltb, Result, Ok, Err}
use Rattle.rules.specs.declared.Night.{Night}
use Rattle.rules.specs.declared.Refusal.{Refusal}
use Rattle.rules.specs.ListFile.{most_records}
use Rattle.laws.specs.Night.{NightFits}

-- the night, or its refusal; then 11, of more than 64 entries
unfoldable pub night_for : Result Night Refusal → ℕ → Result Night Refusal
night_for (Err r) count = Err r
night_for (Ok n) count = cond (ltb most_records count) (Err Refusal.Room) (Ok n)

-- a night that is there fits the steps of a place
unfoldable pub PreparedFits : Result Night Refusal → Type 0
PreparedFits (Err r) = Unit {0}
PreparedFits (Ok n) = NightFits n
