-- The lines of a file's entries that are read and worked in an array: what rests on those of a night made ready.
use Rattle.std.specs.Prelude.{◌≡◌, ℕ, Bool, Result, Ok, Err, Option, Some, None}
use Rattle.std.proofs.Math.Path.{refl}
use mathlib.Core.List.{List}
use Rattle.rules.specs.Night.{night_of}
use Rattle.rules.specs.ListReading.{list_count, list_read, entries_after_read}
use Rattle.laws.specs.ListFile.{read_refused}
use Rattle.line_asked.specs.declared.Asked.{Asked}
use Rattle.entries_listing.specs.Listing.{blanks, listing_read}
use Rattle.line_entries.specs.declared.air.Air.{Air}
use Rattle.line_places.specs.Answers.{begun_for, begun_of, in_air}
use Rattle.line_places.specs.Program.{answer_lines}
use Rattle.line_places.specs.Listed.{counted, asked_lines, read_lines}
use Rattle.line_places.specs.ListedLines.{read_is, by_prepared}
use Rattle.rules.specs.declared.Refusal.{Refusal}

module _ (people : Bool) (air : Option Air) (file : List ℕ) (count : ℕ) (e : list_count file ≡ Ok count) where
  by_asked : (asked : Option Asked) → answer_lines people air file (in_air air (begun_for count asked))
      ≡ asked_lines people air asked (entries_after_read file blanks) count
  unfolding answer_lines in_air begun_for asked_lines
  by_asked (Some a) = by_prepared people air file count e a.moment a.site (night_of a.moment a.site) refl
  by_asked None = refl

-- all that is printed
pub lists_print : (people : Bool) (air : Option Air) (file : List ℕ) (asked : Option Asked)
    → answer_lines people air file (in_air air (begun_of (list_count file) asked))
    ≡ read_lines people air asked (listing_read file)
unfolding answer_lines in_air begun_of read_lines listing_read counted
lists_print people air file asked = go (list_count file) refl
  where
    go : (l : Result ℕ Refusal) → list_count file ≡ l → answer_lines people air file (in_air air (begun_of (list_count file) asked))
        ≡ counted (list_read file blanks) (asked_lines people air asked (entries_after_read file blanks))
    go (Err r) e = rw (e, read_refused file blanks r e)
    go (Ok count) e = rw (e, read_is people air file count e) (by_asked people air file count e asked)
