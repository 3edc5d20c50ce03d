-- Change C-12 in what `places` prints: a dash where a place has no angle, and there alone.
use Rattle.std.specs.Prelude.{List, ℕ, ℤ, Option, Some, None}
use Rattle.line_entries.specs.EntryLine.{dash}

-- what is printed of a right ascension or an azimuth
abbrev pub shown : (ℤ → List ℕ) → Option ℤ → List ℕ
shown text (Some a) = text a
shown text None = dash
