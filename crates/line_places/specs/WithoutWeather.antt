-- The program without pressure and temperature, defined by itself; and that where none are given it prints the same, to
-- the byte.
use Rattle.std.specs.Prelude.{◌≡◌, refl, Bool, true, false, ◌&&◌, ◌||◌, List, [], ◌∷◌, ◌++◌, ℕ, zero, suc, eqb, Result, Ok, Err, Some, None}
use Rattle.std.proofs.Common.{sym, ap, ◌∙◌, eqb-true}
use Rattle.rules.specs.declared.Night.{Night}
use Rattle.rules.specs.Refusals.{number}
use Rattle.rules.specs.Bytes.{same_bytes}
use Rattle.rules.specs.Times.{refused_line, ended}
use Rattle.rules.specs.ListReading.{fresh_entry, list_count, list_star}
use Rattle.rules.specs.NightList.{worked}
use Rattle.laws.specs.Ranges.{true_not_false}
use Rattle.line_asked.specs.Asking.{asked_of}
use Rattle.line_entries.specs.EntryLine.{entry_line}
use Rattle.line_places.specs.Air.{air_accepted}
use Rattle.line_places.specs.Answers.{Begun, begun_of, in_air, line_in, star_line, answer_line}
use Rattle.line_places.specs.Program.{header, header_in, entry_lines, answer_lines, first_line}
use Rattle.line_places.specs.Program.{people_word, command_of}
use Rattle.line_places.specs.Commands.{command_of_2, command_of_3}
use Rattle.rules.specs.declared.Refusal.{Refusal}
use Rattle.rules.specs.declared.Star.{Star}
use Rattle.line_places.specs.Air.{command_for}

-- ---- what it prints

unfoldable pub star_line_without : Bool → Night → ℕ → Result Star Refusal → List ℕ
star_line_without people n index (Ok s) = entry_line people index (worked n (fresh_entry s))
star_line_without people n index (Err r) = refused_line (number r)

unfoldable pub entry_lines_without : Bool → List ℕ → Night → ℕ → List (List ℕ)
entry_lines_without people file n zero = []
entry_lines_without people file n (suc count) =
    entry_lines_without people file n count ++ star_line_without people n count (list_star file count) ∷ []

unfoldable pub answer_lines_without : Bool → List ℕ → Begun → List (List ℕ)
answer_lines_without people file (Begun.For count n) = header ∷ entry_lines_without people file n count
answer_lines_without people file (Begun.Refused r) = refused_line (number r) ∷ []
answer_lines_without people file Begun.Other = refused_line 0 ∷ []

unfoldable pub places_without : Bool → List ℕ → List ℕ → List ℕ
places_without people file input =
    ended (answer_lines_without people file (begun_of (list_count file) (asked_of (first_line input))))

-- ---- the same bytes

pub begun_same : (b : Begun) → in_air None b ≡ b
unfolding in_air air_accepted
begun_same (Begun.For count n) = refl
begun_same (Begun.Refused r) = refl
begun_same Begun.Other = refl

star_line_same : (people : Bool) (n : Night) (index : ℕ) (s : Result Star Refusal)
    → star_line people None n index s ≡ star_line_without people n index s
unfolding star_line star_line_without line_in
star_line_same people n index (Ok s) = refl
star_line_same people n index (Err r) = refl

entry_lines_same : (people : Bool) (file : List ℕ) (n : Night) (count : ℕ)
    → entry_lines people None file n count ≡ entry_lines_without people file n count
unfolding entry_lines entry_lines_without answer_line
entry_lines_same people file n zero = refl
entry_lines_same people file n (suc count) =
    rw (entry_lines_same people file n count, star_line_same people n count (list_star file count))

pub answer_lines_same : (people : Bool) (file : List ℕ) (b : Begun)
    → answer_lines people None file b ≡ answer_lines_without people file b
unfolding answer_lines answer_lines_without header_in
answer_lines_same people file (Begun.For count n) = ap (λ lines. header ∷ lines) (entry_lines_same people file n count)
answer_lines_same people file (Begun.Refused r) = refl
answer_lines_same people file Begun.Other = refl

-- ---- the same commands

-- `places FILE` or `places FILE sexagesimal`
unfoldable pub is_command_without : ℕ → List ℕ → Bool
is_command_without words third = eqb words 2 || (eqb words 3 && same_bytes third people_word)

-- each is one with the option too, and says nothing of the air
pub command_without_weather : (words : ℕ) (third fourth fifth : List ℕ) → is_command_without words third ≡ true
    → command_of words third fourth fifth ≡ Some (command_for (eqb words 3) None)
unfolding is_command_without
command_without_weather words third fourth fifth h =
    go (eqb words 2) (eqb words 3) (same_bytes third people_word) refl refl refl h
  where
    said : (k : ℕ) → words ≡ k → Some (command_for (eqb k 3) None) ≡ Some (command_for (eqb words 3) None)
    said k e = ap (λ j. Some (command_for (eqb j 3) None)) (sym e)

    go : (a b s : Bool) → eqb words 2 ≡ a → eqb words 3 ≡ b → same_bytes third people_word ≡ s → a || (b && s) ≡ true
        → command_of words third fourth fifth ≡ Some (command_for (eqb words 3) None)
    go true b s e f g k =
        let two = eqb-true words 2 e in
        command_of_2 words third fourth fifth two ∙ said 2 two
    go false true true e f g k =
        let three = eqb-true words 3 f in
        command_of_3 words third fourth fifth three g ∙ said 3 three
    go false true false e f g k = true_not_false (sym k)
    go false false s e f g k = true_not_false (sym k)
