-- The entries of a list file in an array of 64, as they are read and as they are worked. Definitions only.
use Rattle.std.specs.Prelude.{ℕ, List, ◌++◌, pos, take, drop, replicate}
use Rattle.rules.specs.declared.Entry.{Entry}
use Rattle.rules.specs.declared.Moment.{Moment}
use Rattle.rules.specs.declared.Site.{Site}
use Rattle.rules.specs.ListReading.{noughts, list_read, entries_after_read}
use Rattle.rules.specs.NightList.{night_list, entries_after_night}
use Rattle.entries_listing.specs.declared.Listing.{Listing}

-- an entry of noughts
abbrev pub blank : Entry
blank = record {
  star = record { ra = pos 0; declination = pos 0; ra_motion = pos 0; declination_motion = pos 0 };
  mark = 0;
  angles = noughts;
}

unfoldable pub blanks : List Entry
blanks = replicate 64 blank

-- a file read into 64 entries
unfoldable pub listing_read : List ℕ → Listing
listing_read file = record { answer = list_read file blanks; entries = entries_after_read file blanks }

-- the first `count` entries worked, the others as they were
unfoldable pub listing_worked : Moment → Site → ℕ → List Entry → Listing
listing_worked m site count entries = record {
  answer = night_list m site (take count entries);
  entries = entries_after_night m site (take count entries) ++ drop count entries;
}
