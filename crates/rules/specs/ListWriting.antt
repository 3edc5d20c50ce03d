-- docs/RULES.md, "Lists": a list file written, from entries and from plain numbers. Definitions only.
use Rattle.std.specs.Prelude.{ℕ, zero, suc, ◌/◌, ◌%◌, Bool, not, cond, ◌||◌, length, drop, get_or, eqb, ltb, ℤ, pos, Result, Ok, Err}
use mathlib.Core.List.{List, [], ◌∷◌, ◌++◌, map, foldr}
use Rattle.rules.specs.Data.{Star, Entry, Refusal}
use Rattle.rules.specs.Bytes.{bytes_of}
use Rattle.rules.specs.ListFile.{mark, most_records, file_length, record_of, any_refused}
use Rattle.rules.specs.ListReading.{leaving}

-- ---- writing: 5, then 11

-- what is written of entries: no mark and no place
unfoldable pub stars_of : List Entry → List Star
stars_of entries = map (λ (e : Entry). e.star) entries

-- the file of a list of stars
unfoldable pub file_of : List Star → List ℕ
file_of ss = mark ++ bytes_of 2 1 ++ bytes_of 2 (length ss) ++ foldr (λ s rest. record_of s ++ rest) [] ss

-- refusal 11, of a writer: "more than 64 entries given, or room too small for the file"
unfoldable pub room_refused : ℕ → ℕ → Bool
room_refused count room = ltb most_records count || ltb room (file_length count)

-- 5 where a star is refused, then 11 where the room is; the length of the file of so many stars
unfoldable pub written_of : Bool → Bool → ℕ → Result ℕ Refusal
written_of star_is room_is count =
    cond star_is (Err Refusal.Star)
    (cond room_is (Err Refusal.Room)
    (Ok (file_length count)))

-- a list written into lent room: the file's length
unfoldable pub list_written : List Entry → List ℕ → Result ℕ Refusal
list_written entries room =
    written_of (any_refused (stars_of entries)) (room_refused (length entries) (length room)) (length entries)

-- the room afterwards: "bytes past it in the writer's room stay"
unfoldable pub room_after_write : List Entry → List ℕ → List ℕ
room_after_write entries room =
    leaving (list_written entries room) (file_of (stars_of entries) ++ drop (file_length (length entries)) room) room

-- four numbers to a star: RA, declination and the two motions
unfoldable pub star_from : List ℤ → Star
star_from numbers = record {
  ra = get_or numbers 0 (pos 0);
  declination = get_or numbers 1 (pos 0);
  ra_motion = get_or numbers 2 (pos 0);
  declination_motion = get_or numbers 3 (pos 0);
}

unfoldable pub stars_from : ℕ → List ℤ → List Star
stars_from zero numbers = []
stars_from (suc count) numbers = star_from numbers ∷ stars_from count (drop 4 numbers)

-- how many stars have all their four numbers
unfoldable pub count_from : List ℤ → ℕ
count_from numbers = length numbers / 4

-- the whole stars of a row of numbers
unfoldable pub number_stars : List ℤ → List Star
number_stars numbers = stars_from (count_from numbers) numbers

-- refusal 11 of the row: its last star has not all of its numbers
unfoldable pub row_refused : List ℤ → ℕ → Bool
row_refused numbers room = not (eqb (length numbers % 4) 0) || room_refused (count_from numbers) room

-- a row of numbers written into lent room as a file: its length
unfoldable pub numbers_written : List ℤ → List ℕ → Result ℕ Refusal
numbers_written numbers room =
    written_of (any_refused (number_stars numbers)) (row_refused numbers (length room)) (count_from numbers)

unfoldable pub room_after_numbers : List ℤ → List ℕ → List ℕ
room_after_numbers numbers room =
    leaving (numbers_written numbers room)
    (file_of (number_stars numbers) ++ drop (file_length (count_from numbers)) room) room
