-- docs/RULES.md, "Lists": the star list file and its records. Definitions only.
use Rattle.std.specs.Prelude.{ℕ, zero, suc, ◌+◌, ◌*◌, Bool, false, ◌||◌, List, [], ◌∷◌, ◌++◌, drop}
use Rattle.rules.specs.Data.{Star}
use Rattle.rules.specs.Stars.{star_refused}
use Rattle.rules.specs.Bytes.{unsigned_at, signed_at, signed_bytes}

-- "mark `SLT`, version 1 (16 bits), count (16 bits)": from byte 0, 3 and 5
abbrev pub mark : List ℕ
mark = 83 ∷ 76 ∷ 84 ∷ []

-- "7 + 24 × count bytes"
abbrev pub head_length : ℕ
head_length = 7

abbrev pub record_length : ℕ
record_length = 24

-- where record i begins, and so the length of i records with their head
abbrev pub record_at : ℕ → ℕ
record_at i = head_length + record_length * i

-- "at most 64"
abbrev pub most_records : ℕ
most_records = 64

-- a file's own count
unfoldable pub count_in : List ℕ → ℕ
count_in file = unsigned_at 5 2 file

unfoldable pub file_length : ℕ → ℕ
file_length count = record_at count

-- "records of RA and declination (64, signed), two motions (32, signed)"
unfoldable pub star_in : List ℕ → Star
star_in bytes = record {
  ra = signed_at 0 8 bytes;
  declination = signed_at 8 8 bytes;
  ra_motion = signed_at 16 4 bytes;
  declination_motion = signed_at 20 4 bytes;
}

-- and back
unfoldable pub record_of : Star → List ℕ
record_of s = signed_bytes 8 s.ra ++ signed_bytes 8 s.declination
    ++ signed_bytes 4 s.ra_motion ++ signed_bytes 4 s.declination_motion

-- the first `count` records of what follows the head
unfoldable pub stars_in : ℕ → List ℕ → List Star
stars_in zero bytes = []
stars_in (suc count) bytes = star_in bytes ∷ stars_in count (drop record_length bytes)

unfoldable pub stars : List ℕ → List Star
stars file = stars_in (count_in file) (drop head_length file)

-- a star of the list is refused
unfoldable pub any_refused : List Star → Bool
any_refused [] = false
any_refused (s ∷ ss) = star_refused s || any_refused ss
