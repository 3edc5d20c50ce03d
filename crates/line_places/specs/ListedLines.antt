-- The lines of a file's entries that are read and worked in an array are those of Program.antt, each by its index.
use Rattle.std.specs.Prelude.{◌≡◌, Bool, cond, ℕ, ◌≤◌, ◌<◌, take, Result, Ok, Err, Option, Some, None}
use Rattle.std.proofs.Math.Path.{refl, sym, ap}
use Rattle.std.proofs.Common.{◌∙◌, arith, lt-ltb, le-ltb}
use Rattle.std.proofs.Math.Bool.{true, false}
use mathlib.Core.List.{List, [], ◌∷◌, ◌++◌, map}
use Rattle.std.proofs.Math.ListN.{length, drop}
use Rattle.rules.specs.declared.Entry.{Entry}
use Rattle.rules.specs.declared.Moment.{Moment}
use Rattle.rules.specs.declared.Site.{Site}
use Rattle.rules.specs.declared.Night.{Night}
use Rattle.rules.specs.declared.Refusal.{Refusal}
use Rattle.rules.specs.Refusals.{number}
use Rattle.rules.specs.Times.{refused_line}
use Rattle.rules.specs.Night.{night_of}
use Rattle.rules.specs.ListFile.{most_records, file_length, star_in, stars}
use Rattle.rules.specs.ListReading.{fresh_entry, list_count, list_read, entries_after_read, star_at, list_star}
use Rattle.rules.specs.NightList.{worked, marked, list_refused, listed_in, night_list, worked_in, entries_after_night}
use Rattle.laws.specs.ListFile.{file_accepted, accepted_few, read_accepted, read_counted}
use Rattle.laws.specs.RoundTrip.{entries_read}
use Rattle.line_asked.specs.declared.Asked.{Asked}
use Rattle.line_asked.specs.Asking as asking
use Rattle.entries_listing.specs.declared.Listing.{Listing}
use Rattle.entries_listing.specs.Listing.{blanks, listing_read, listing_worked}
use Rattle.line_entries.specs.declared.air.Air.{Air}
use Rattle.line_places.specs.Air.{air_accepted}
use Rattle.line_places.specs.Answers.{Begun, begun_in, in_air, star_line, answer_line}
use Rattle.line_places.specs.Program.{header_in, entry_lines, answer_lines}
use Rattle.line_places.specs.Listed.{listed_line, lines_to, counted, accepted_lines}
use Rattle.line_places.specs.Listed.{worked_lines, asked_lines, read_lines}
use Rattle.line_places.specs.WorkedEntries.{get_d_worked, get_d_read, read_length, blanks_length}
use Rattle.line_places.specs.Lines.{lines_same, entry_lines_are}

-- ---- what is printed, by the answers

module _ (people : Bool) (air : Option Air) where
  pub air_accepted_lem : (entries : List Entry) (count : ℕ) → air_accepted air ≡ true
      → accepted_lines people air entries count ≡ header_in air ∷ lines_to (listed_line people air entries) count
  unfolding accepted_lines
  air_accepted_lem entries count e = rw e

  pub air_refused : (entries : List Entry) (count : ℕ) → air_accepted air ≡ false
      → accepted_lines people air entries count ≡ refused_line (number Refusal.Reading) ∷ []
  unfolding accepted_lines
  air_refused entries count e = rw e

  pub worked_counted : (count : ℕ) (l : Listing) (k : ℕ) → l.answer ≡ Ok k
      → worked_lines people air count l ≡ accepted_lines people air l.entries count
  unfolding worked_lines counted
  worked_counted count l k e = rw e

  pub worked_refused : (count : ℕ) (l : Listing) (r : Refusal) → l.answer ≡ Err r
      → worked_lines people air count l ≡ refused_line (number r) ∷ []
  unfolding worked_lines counted
  worked_refused count l r e = rw e

  pub asked_for : (asked : Option Asked) (entries : List Entry) (count : ℕ) (m : Moment) (site : Site) (l : Listing)
      → asked ≡ Some (asking.asked_for m site) → l ≡ listing_worked m site count entries
      → worked_lines people air count l ≡ asked_lines people air asked entries count
  unfolding asked_lines
  asked_for asked entries count m site l e f = rw (e, f)

  pub asked_other : (asked : Option Asked) (entries : List Entry) (count : ℕ) → asked ≡ None
      → asked_lines people air asked entries count ≡ refused_line 0 ∷ []
  unfolding asked_lines
  asked_other asked entries count e = rw e

  pub file_counted : (asked : Option Asked) (l : Listing) (count : ℕ) → l.answer ≡ Ok count
      → read_lines people air asked l ≡ asked_lines people air asked l.entries count
  unfolding read_lines counted
  file_counted asked l count e = rw e

  pub file_refused : (asked : Option Asked) (l : Listing) (r : Refusal) → l.answer ≡ Err r
      → read_lines people air asked l ≡ refused_line (number r) ∷ []
  unfolding read_lines counted
  file_refused asked l r e = rw e

-- ---- the lines of a file

star_at_lem : (file : List ℕ) (count i : ℕ) → list_count file ≡ Ok count → i < count
    → list_star file i ≡ Ok (star_in (drop (file_length i) file))
unfolding list_star star_at
star_at_lem file count i e h = rw (e, lt-ltb i count h)

line_same : (people : Bool) (air : Option Air) (file : List ℕ) (n : Night) (count : ℕ) (rest : List Entry) (i : ℕ)
    → list_count file ≡ Ok count → i < count
    → listed_line people air (map (worked n) (map fresh_entry (stars file)) ++ rest) i ≡ answer_line people air file n i
unfolding listed_line answer_line star_line
line_same people air file n count rest i e h =
    let k = (file_accepted file count e).count_is in
    let long = read_length file in
    rw (
      star_at_lem file count i e h,
      get_d_worked n (map fresh_entry (stars file)) rest i (omega (arith, h, k, long)),
      get_d_read file i (omega (arith, h, k)),
    )

-- a night list in a night
night_counted : (m : Moment) (site : Site) (n : Night) (es : List Entry) → night_of m site ≡ Ok n
    → length es ≤ most_records → night_list m site es ≡ Ok (marked (map (worked n) es))
unfolding night_list listed_in list_refused
night_counted m site n es e h = rw (e, le-ltb most_records (length es) h)

night_after : (m : Moment) (site : Site) (n : Night) (es : List Entry) → night_of m site ≡ Ok n
    → length es ≤ most_records → entries_after_night m site es ≡ map (worked n) es
unfolding entries_after_night worked_in list_refused
night_after m site n es e h = rw (e, le-ltb most_records (length es) h)

night_refused : (m : Moment) (site : Site) (r : Refusal) (es : List Entry) → night_of m site ≡ Err r
    → night_list m site es ≡ Err r
unfolding night_list listed_in
night_refused m site r es e = rw e

module _ (people : Bool) (air : Option Air) (file : List ℕ) (count : ℕ) (e : list_count file ≡ Ok count) where
  few : count ≤ most_records
  few = accepted_few file count e

  pub read_is : list_read file blanks ≡ Ok count
  read_is = read_counted file blanks count e (omega (arith, few, blanks_length))

  front_is : take count (entries_after_read file blanks) ≡ map fresh_entry (stars file)
  front_is = entries_read file blanks count read_is

  -- the lines in a night, and 14 after it
  by_air : (t : Bool) (n : Night)
      → answer_lines people air file (cond t (Begun.For count n) (Begun.Refused Refusal.Reading))
      ≡ cond t (header_in air ∷ entry_lines people air file n count) (refused_line (number Refusal.Reading) ∷ [])
  unfolding answer_lines
  by_air true n = refl
  by_air false n = refl

  in_night : (m : Moment) (site : Site) (n : Night) → night_of m site ≡ Ok n
      → worked_lines people air count (listing_worked m site count (entries_after_read file blanks))
      ≡ cond (air_accepted air) (header_in air ∷ entry_lines people air file n count)
      (refused_line (number Refusal.Reading) ∷ [])
  unfolding worked_lines listing_worked counted accepted_lines
  in_night m site n g =
      let es = map fresh_entry (stars file) in
      let rest = drop count (entries_after_read file blanks) in
      let long : length es ≤ most_records = omega (arith, few, read_length file, (file_accepted file count e).count_is) in
      rw (
        front_is,
        night_counted m site n es g long,
        night_after m site n es g long,
        entry_lines_are people air file n count,
        lines_same (listed_line people air (map (worked n) es ++ rest)) (answer_line people air file n) count
            (λ i h. line_same people air file n count rest i e h),
      )

  pub by_prepared : (m : Moment) (site : Site) (p : Result Night Refusal) → night_of m site ≡ p
      → answer_lines people air file (in_air air (begun_in count (night_of m site)))
      ≡ worked_lines people air count (listing_worked m site count (entries_after_read file blanks))
  unfolding answer_lines in_air begun_in worked_lines listing_worked counted
  by_prepared m site (Err r) g = rw (g, night_refused m site r _ g)
  by_prepared m site (Ok n) g =
      ap (λ p. answer_lines people air file (in_air air (begun_in count p))) g ∙ by_air (air_accepted air) n
      ∙ sym (in_night m site n g)

-- a file that is read has 64 entries at most
pub read_few : (file : List ℕ) (l : Listing) (count : ℕ) → l ≡ listing_read file → l.answer ≡ Ok count
    → count ≤ most_records
unfolding listing_read
read_few file l count e f =
    let is : list_read file blanks ≡ Ok count = sym (ap (λ (k : Listing). k.answer) e) ∙ f in
    omega (arith, (read_accepted file blanks count is).1, blanks_length)
