-- The lines of a list that was worked in an array are short, where the air is accepted.
use Rattle.std.specs.Prelude.{◌≡◌, refl, Bool, cond, List, ◌++◌, map, ℕ, ◌≤◌, ◌<◌, ltb, length, get_or, take, drop, Result, Ok, Err, Option}
use Rattle.std.proofs.Math.Bool.{true, false}
use Rattle.std.proofs.Common.{arith, lit≤, length-append, length-take, length-drop, ltb-true, ltb-false}
use Rattle.std.proofs.lemmas.List.{length-map}
use Rattle.std.proofs.Math.ListN.{get_or-eq_default}
use Rattle.rules.specs.declared.Entry.{Entry}
use Rattle.rules.specs.declared.Moment.{Moment}
use Rattle.rules.specs.declared.Site.{Site}
use Rattle.rules.specs.declared.Night.{Night}
use Rattle.rules.specs.declared.Refusal.{Refusal}
use Rattle.rules.specs.Night.{night_of}
use Rattle.rules.specs.ListFile.{most_records}
use Rattle.rules.specs.NightList.{worked, list_refused, listed_in, night_list, worked_in, entries_after_night}
use Rattle.laws.specs.Ranges.{true_not_false}
use Rattle.entries_listing.specs.Listing.{blank, listing_worked}
use Rattle.line_entries.specs.declared.air.Air.{Air}
use Rattle.line_places.specs.Air.{air_accepted}
use Rattle.line_places.specs.Answers.{line_in}
use Rattle.line_places.specs.Listed.{listed_line}
use Rattle.line_places.specs.Room.{answer_room, line_length, WorkedPrintable}
use Rattle.line_places.specs.Lengths.{line_le, noughts_le, worked_le}
use Rattle.line_places.specs.WorkedEntries.{get_d_worked}

module _ (people : Bool) (air : Option Air) (accepted : air_accepted air ≡ true) where
  -- the line of one of some entries is short
  abbrev ShortAt : ℕ → List Entry → Type 0
  ShortAt index entries = length (line_in people air index (get_or entries index blank)) ≤ line_length

  -- of one of the first `count`, worked; or of none where there are fewer
  worked_or_blank : (n : Night) (count index : ℕ) (entries : List Entry) → count ≤ most_records → index < count
      → ShortAt index (map (worked n) (take count entries) ++ drop count entries)
  worked_or_blank n count index entries few h = go (ltb index (length es)) refl
    where
      es : List Entry
      es = take count entries

      rest : List Entry
      rest = drop count entries

      go : (t : Bool) → ltb index (length es) ≡ t → ShortAt index (map (worked n) es ++ rest)
      go true e =
          rw (get_d_worked n es rest index (ltb-true index (length es) e))
          (worked_le people air accepted n index (get_or es index blank) (omega (arith, few, h)))
      go false e =
          let all : length (map (worked n) es ++ rest) ≤ index =
          omega (
            arith,
            h,
            ltb-false index (length es) e,
            length-append (map (worked n) es) rest,
            length-map es (worked n),
            length-take count entries,
            length-drop count entries,
          ) in
          rw (get_or-eq_default (map (worked n) es ++ rest) blank {n = index} all)
          (line_le people air index blank accepted (omega (arith, few, h)) (lit≤ tt) noughts_le)

  by_room : (n : Night) (t : Bool) (k j count index : ℕ) (entries : List Entry) → count ≤ most_records
      → index < count → cond t (Err Refusal.Room) (Ok k) ≡ Ok j
      → ShortAt index (cond t (take count entries) (map (worked n) (take count entries)) ++ drop count entries)
  by_room n true k j count index entries few h e = let z : true ≡ false = cc in true_not_false z
  by_room n false k j count index entries few h e = worked_or_blank n count index entries few h

  by_night : (p : Result Night Refusal) (j count index : ℕ) (entries : List Entry) → count ≤ most_records
      → index < count → listed_in p (take count entries) ≡ Ok j
      → ShortAt index (worked_in p (take count entries) ++ drop count entries)
  unfolding listed_in worked_in
  by_night (Err r) j count index entries few h e = let z : true ≡ false = cc in true_not_false z
  by_night (Ok n) j count index entries few h e =
      by_room n (list_refused (take count entries)) _ j count index entries few h e

pub worked_printable : (people : Bool) (air : Option Air) (m : Moment) (site : Site) (count : ℕ) (entries : List Entry)
    (room : ℕ) → count ≤ most_records → answer_room ≤ room
    → WorkedPrintable people air (listing_worked m site count entries) count room
unfolding listing_worked listed_line night_list entries_after_night
worked_printable people air m site count entries room few inside = record {
  entries = λ j e. record {
    few = few;
    short = λ accepted index h. by_night people air accepted (night_of m site) j count index entries few h e;
    inside = inside;
  };
  inside = inside;
}
