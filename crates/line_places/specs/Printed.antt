-- All that is printed: it fits its room and stands at the front of it; and which it is, exactly when.
use Rattle.std.specs.Prelude.{◌≡◌, refl, Bool, true, false, List, [], ◌∷◌, ℕ, ◌≤◌, pos, length, Ok, Err, Option, Some, None}
use Rattle.std.proofs.Common.{sym, ap, ◌∙◌, arith, lit≤, length-append}
use Rattle.rules.specs.declared.Moment.{Moment}
use Rattle.rules.specs.declared.Site.{Site}
use Rattle.rules.specs.declared.Night.{Night}
use Rattle.rules.specs.declared.Refusal.{Refusal}
use Rattle.rules.specs.Refusals.{number}
use Rattle.rules.specs.Times.{refused_line, ended}
use Rattle.rules.specs.Night.{night_of}
use Rattle.rules.specs.ListReading.{list_count}
use Rattle.laws.specs.LinesWithEnds.{ended_length, ended_cons}
use Rattle.laws.specs.Times.{number_le, refused_line_is, refused_line_le}
use Rattle.decimals.specs.Refused.{refused_to}
use Rattle.line_asked.specs.Asking.{asked_of}
use Rattle.line_entries.specs.declared.air.Air.{Air}
use Rattle.line_places.specs.Air.{air_accepted}
use Rattle.line_places.specs.Answers.{Begun, begun_in, begun_for, begun_of, in_air, begun}
use Rattle.line_places.specs.Program.{header_in, entry_lines, answer_lines, first_line, places}
use Rattle.line_places.specs.Room.{answer_room}
use Rattle.line_places.specs.Entries.{begun_is}
use Rattle.line_places.specs.Lines.{header_le, entry_lines_le}
use Rattle.line_asked.specs.Asking.{asked_for}

answer_lines_le : (people : Bool) (air : Option Air) (file line : List ℕ) (b : Begun) → begun air file line ≡ b
    → length (ended (answer_lines people air file b)) ≤ answer_room
unfolding answer_lines
answer_lines_le people air file line (Begun.For count n) e =
    let lines = entry_lines people air file n count in
    let k = begun_is air count n file line e in
    omega (
      arith,
      ap length (ended_cons (header_in air) lines),
      length-append (ended (header_in air ∷ [])) (ended lines),
      header_le air,
      entry_lines_le people air file n count k.1,
      k.0,
    )
answer_lines_le people air file line (Begun.Refused r) e =
    omega (arith, ended_length (refused_line (number r)), refused_line_le (number r) (number_le r))
answer_lines_le people air file line Begun.Other e =
    omega (arith, ended_length (refused_line 0), refused_line_le 0 (lit≤ tt))

pub places_le : (people : Bool) (air : Option Air) (file input : List ℕ) → length (places people air file input) ≤ answer_room
unfolding places
places_le people air file input =
    answer_lines_le people air file (first_line input) (begun air file (first_line input)) refl

-- the line of a refusal, by its number
pub ended_refused : (n : ℕ) → ended (refused_to (pos n) ∷ []) ≡ ended (refused_line n ∷ [])
ended_refused n = ap (λ l. ended (l ∷ [])) (sym (refused_line_is n))

-- the lines of what a file and a line come to, put into the room
pub answer_put : (people : Bool) (air : Option Air) (file input : List ℕ) (lines : List (List ℕ)) (room : List ℕ)
    → answer_lines people air file (begun air file (first_line input)) ≡ lines → room ≡ ended lines
    → room ≡ places people air file input
unfolding places
answer_put people air file input lines room e put = put ∙ ap ended (sym e)

-- ---- what is printed, exactly when: the file, then the form of the line, then date and site, then the air

module _ (people : Bool) (air : Option Air) (file input : List ℕ) where
  pub file_refused : (r : Refusal) → list_count file ≡ Err r
      → places people air file input ≡ ended (refused_line (number r) ∷ [])
  unfolding places begun in_air begun_of answer_lines
  file_refused r e = rw e

  module _ (count : ℕ) (e : list_count file ≡ Ok count) where
    pub other_form_lem : asked_of (first_line input) ≡ None → places people air file input ≡ ended (refused_line 0 ∷ [])
    unfolding places begun in_air begun_of begun_for answer_lines
    other_form_lem f = rw (e, f)

    module _ (m : Moment) (site : Site) (f : asked_of (first_line input) ≡ Some (asked_for m site)) where
      pub night_refused : (r : Refusal) → night_of m site ≡ Err r
          → places people air file input ≡ ended (refused_line (number r) ∷ [])
      unfolding places begun in_air begun_of begun_for begun_in answer_lines
      night_refused r g = rw (e, f, g)

      pub air_refused : (n : Night) → night_of m site ≡ Ok n → air_accepted air ≡ false
          → places people air file input ≡ ended (refused_line 14 ∷ [])
      unfolding places begun in_air begun_of begun_for begun_in answer_lines number
      air_refused n g h = rw (e, f, g, h)

      pub entries_printed : (n : Night) → night_of m site ≡ Ok n → air_accepted air ≡ true
          → places people air file input ≡ ended (header_in air ∷ entry_lines people air file n count)
      unfolding places begun in_air begun_of begun_for begun_in answer_lines
      entries_printed n g h = rw (e, f, g, h)
