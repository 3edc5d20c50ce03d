-- docs/RULES.md, "Lists": a list file read, with the refusals. Definitions only.
use Rattle.std.specs.Prelude.{ℕ, Bool, not, cond, ◌&&◌, List, ◌++◌, map, length, drop, eqb, leb, ltb, pos, Result, Ok, Err}
use Rattle.rules.specs.Data.{Star, Angles, Entry, Refusal}
use Rattle.rules.specs.Bytes.{part, unsigned_at, same_bytes}
use Rattle.rules.specs.ListFile.{mark, head_length, most_records, count_in, file_length, star_in, stars, any_refused}

-- ---- reading: "a file is checked 9, 10, 5, then 11"

-- refusal 9: "file under 7 bytes, wrong mark, or version not 1"
unfoldable pub mark_refused : List ℕ → Bool
mark_refused file = not (leb head_length (length file) && same_bytes (part 0 3 file) mark && eqb (unsigned_at 3 2 file) 1)

-- refusal 10: "more than 64 records, or file length not exactly that of its count"
unfoldable pub count_refused : List ℕ → Bool
count_refused file = not (leb (count_in file) most_records && eqb (length file) (file_length (count_in file)))

-- 9, 10 and 5, which are of the file alone: the number of its records
unfoldable pub list_count : List ℕ → Result ℕ Refusal
list_count file =
    cond (mark_refused file) (Err Refusal.Mark)
    (cond (count_refused file) (Err Refusal.Count)
    (cond (any_refused (stars file)) (Err Refusal.Star)
    (Ok (count_in file))))

-- then 11, of a reader: "room too small .. for its entries"
unfoldable pub read_into : Result ℕ Refusal → ℕ → Result ℕ Refusal
read_into (Err r) room = Err r
read_into (Ok count) room = cond (ltb room count) (Err Refusal.Room) (Ok count)

-- a file read into lent entries: the number of records
unfoldable pub list_read : List ℕ → List Entry → Result ℕ Refusal
list_read file entries = read_into (list_count file) (length entries)

abbrev pub noughts : Angles
noughts = record { ra = pos 0; declination = pos 0; azimuth = pos 0; altitude = pos 0 }

-- "Entries read get mark 0 and four noughts"
unfoldable pub fresh_entry : Star → Entry
fresh_entry s = record { star = s; mark = 0; angles = noughts }

-- what an answer leaves in lent memory: the new where it is a count, the old where it is a refusal
unfoldable pub leaving {ℓ} : {A : Type ℓ} → Result ℕ Refusal → A → A → A
leaving (Ok n) new old = new
leaving (Err r) new old = old

-- the entries afterwards: "entries past the count stay"
unfoldable pub entries_after_read : List ℕ → List Entry → List Entry
entries_after_read file entries =
    leaving (list_read file entries) (map fresh_entry (stars file) ++ drop (count_in file) entries) entries

-- ---- the same rules for C, which calls "with plain numbers and byte slices"

-- a star of a file by its index. After 9, 10 and 5 an index from the count on is refused 11: the file has no room for
-- it
unfoldable pub star_at : Result ℕ Refusal → List ℕ → ℕ → Result Star Refusal
star_at (Err r) file index = Err r
star_at (Ok count) file index =
    cond (ltb index count) (Ok (star_in (drop (file_length index) file))) (Err Refusal.Room)

unfoldable pub list_star : List ℕ → ℕ → Result Star Refusal
list_star file index = star_at (list_count file) file index
