-- The lines of the entries with their ends, put into a room one after another.
use Rattle.std.specs.Prelude.{◌≡◌, Bool, true, List, [], ◌∷◌, ◌++◌, length, Option, Some, None}
use Rattle.std.proofs.Math.Path.{refl}
use Rattle.std.proofs.Common.{sym, ap, ◌∙◌, add-one, arith, length-append, append_assoc, append-nil}
use Prim.Native.Nat.{ℕ, zero, suc, ◌+◌, ◌*◌, ◌<◌, ◌≤◌}
use Rattle.rules.specs.declared.Entry.{Entry}
use Rattle.rules.specs.declared.Night.{Night}
use Rattle.rules.specs.Times.{ended}
use Rattle.laws.specs.LinesWithEnds.{ended_append, ended_length, ended_cons}
use Rattle.line_entries.specs.EntryLine.{entry_line}
use Rattle.line_entries.specs.Observed.{observed_column}
use Rattle.line_entries.specs.declared.air.Air.{Air}
use Rattle.line_places.specs.Air.{air_accepted}
use Rattle.line_places.specs.Answers.{line_in, answer_line}
use Rattle.line_places.specs.Program.{header_in, entry_lines}
use Rattle.line_places.specs.Listed.{lines_to}
use Rattle.line_places.specs.Room.{line_length, Short}
use Rattle.line_places.specs.Lengths.{answer_le}

-- the columns before the observed altitude
pub line_front : (people : Bool) (air : Option Air) (index : ℕ) (e : Entry)
    → length (entry_line people index e) ≤ length (line_in people air index e)
unfolding line_in
line_front people None index e = omega arith
line_front people (Some air) index e =
    omega (
      arith,
      length-append (entry_line people index e) (observed_column people air.pressure air.temperature e),
    )

-- the header with its end
pub header_le : (air : Option Air) → length (ended (header_in air ∷ [])) ≤ 29
unfolding header_in ended
header_le None = omega arith
header_le (Some air) = omega arith

-- one entry more
pub lines_step : (line : ℕ → List ℕ) (index : ℕ)
    → ended (lines_to line (index + 1)) ≡ ended (lines_to line index) ++ ended (line index ∷ [])
unfolding lines_to
lines_step line index = rw (add-one index) (ended_append (lines_to line index) _)

pub lines_le : (line : ℕ → List ℕ) (count : ℕ) → Short line count
    → length (ended (lines_to line count)) ≤ (line_length + 1) * count
unfolding lines_to ended
lines_le line zero short = omega arith
lines_le line (suc count) short =
    let lines = lines_to line count in
    rw (ended_append lines (line count ∷ []))
    (omega (
      arith,
      length-append (ended lines) (ended (line count ∷ [])),
      ended_length (line count),
      short count (omega arith),
      lines_le line count (λ index h. short index (omega (arith, h))),
    ))

pub lines_same : (line other : ℕ → List ℕ) (count : ℕ) → ((index : ℕ) → index < count → line index ≡ other index)
    → lines_to line count ≡ lines_to other count
unfolding lines_to
lines_same line other zero same = refl
lines_same line other (suc count) same =
    rw (lines_same line other count (λ index h. same index (omega (arith, h))), same count (omega arith))

-- the lines of a file's entries
module _ (people : Bool) (air : Option Air) (file : List ℕ) (n : Night) where
  pub entry_lines_are : (count : ℕ) → entry_lines people air file n count ≡ lines_to (answer_line people air file n) count
  unfolding entry_lines lines_to
  entry_lines_are zero = refl
  entry_lines_are (suc count) = rw (entry_lines_are count)

  pub entry_lines_le : (count : ℕ) → air_accepted air ≡ true
      → length (ended (entry_lines people air file n count)) ≤ (line_length + 1) * count
  entry_lines_le count accepted =
      rw (entry_lines_are count)
      (lines_le (answer_line people air file n) count (λ index h. answer_le people air accepted file n index))

-- ---- put into a room, one by one

-- those of the first `count` entries stand in a room after what stood there before
pub record LinesPut (line : ℕ → List ℕ) (count : ℕ) (before room : List ℕ) : Type 0 where
  pub put : room ≡ before ++ ended (lines_to line count)

module _ (line : ℕ → List ℕ) (before : List ℕ) where
  pub none_put : LinesPut line 0 before before
  unfolding lines_to ended
  none_put = record { put = sym (append-nil before) }

  pub one_more : (index : ℕ) {room : List ℕ} (room' : List ℕ) → LinesPut line index before room
      → room' ≡ room ++ ended (line index ∷ []) → LinesPut line (index + 1) before room'
  one_more index {room} room' put e =
      let lines = ended (lines_to line index) in
      let next = ended (line index ∷ []) in
      record {
        put = e ∙ ap (λ l. l ++ next) put.put ∙ append_assoc before lines next
            ∙ ap (λ l. before ++ l) (sym (lines_step line index));
      }

  -- and after the header, all of them
  pub all_put : (header : List ℕ) (count index : ℕ) {room : List ℕ} → index ≡ count → before ≡ ended (header ∷ [])
      → LinesPut line index before room → room ≡ ended (header ∷ lines_to line count)
  all_put header count index all headed put =
      put.put ∙ ap (λ k. before ++ ended (lines_to line k)) all
      ∙ ap (λ l. l ++ ended (lines_to line count)) headed
      ∙ sym (ended_cons header (lines_to line count))
