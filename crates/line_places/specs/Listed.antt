-- The lines of entries that were read into an array and worked there, which is how the program goes its way.
-- Definitions only; ListedLines.antt has that all that is printed is that of Program.antt.
use Rattle.std.specs.Prelude.{ℕ, zero, suc, Bool, cond, List, [], ◌∷◌, ◌++◌, get_or, Result, Ok, Err, Option, Some, None}
use Rattle.rules.specs.declared.Entry.{Entry}
use Rattle.rules.specs.declared.Refusal.{Refusal}
use Rattle.rules.specs.Refusals.{number}
use Rattle.rules.specs.Times.{refused_line}
use Rattle.line_asked.specs.declared.Asked.{Asked}
use Rattle.entries_listing.specs.declared.Listing.{Listing}
use Rattle.entries_listing.specs.Listing.{blank, listing_worked}
use Rattle.line_entries.specs.declared.air.Air.{Air}
use Rattle.line_places.specs.Air.{air_accepted}
use Rattle.line_places.specs.Answers.{line_in}
use Rattle.line_places.specs.Program.{header_in}

-- the line of an entry by its index
unfoldable pub listed_line : Bool → Option Air → List Entry → ℕ → List ℕ
listed_line people air entries index = line_in people air index (get_or entries index blank)

-- the lines of the first `count`
unfoldable pub lines_to : (ℕ → List ℕ) → ℕ → List (List ℕ)
lines_to line zero = []
lines_to line (suc count) = lines_to line count ++ line count ∷ []

-- ---- all that is printed

-- what a list that is counted has to print; a refusal has its own line
unfoldable pub counted : Result ℕ Refusal → (ℕ → List (List ℕ)) → List (List ℕ)
counted (Ok count) lines = lines count
counted (Err r) lines = refused_line (number r) ∷ []

-- of the first `count` entries, worked; or that the air is refused
unfoldable pub accepted_lines : Bool → Option Air → List Entry → ℕ → List (List ℕ)
accepted_lines people air entries count =
    cond (air_accepted air) (header_in air ∷ lines_to (listed_line people air entries) count)
    (refused_line (number Refusal.Reading) ∷ [])

-- of a list that was worked
unfoldable pub worked_lines : Bool → Option Air → ℕ → Listing → List (List ℕ)
worked_lines people air count worked =
    counted worked.answer (λ marked. accepted_lines people air worked.entries count)

-- of the first `count` entries, read
unfoldable pub asked_lines : Bool → Option Air → Option Asked → List Entry → ℕ → List (List ℕ)
asked_lines people air (Some asked) entries count =
    worked_lines people air count (listing_worked asked.moment asked.site count entries)
asked_lines people air None entries count = refused_line 0 ∷ []

-- of a file that was read
unfoldable pub read_lines : Bool → Option Air → Option Asked → Listing → List (List ℕ)
read_lines people air asked listing = counted listing.answer (asked_lines people air asked listing.entries)
