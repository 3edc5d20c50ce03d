-- The star list file: its head and its records, and how long they are.
use Rattle.std.specs.Prelude.{◌≡◌, refl, ℕ, zero, suc, ◌*◌, ◌/◌, ◌%◌, length, drop}
use Rattle.std.proofs.Common.{◌∙◌, ap, arith, length-append}
use mathlib.Core.List.{List, [], ◌∷◌, ◌++◌, foldr}
use Rattle.std.proofs.lemmas.List.{length-map}
use Rattle.rules.specs.declared.Star.{Star}
use Rattle.rules.specs.declared.Entry.{Entry}
use Rattle.rules.specs.Bytes.{bytes_of, signed_bytes}
use Rattle.rules.specs.ListFile.{head_length, record_length, count_in, file_length, record_of, stars_in, stars}
use Rattle.rules.specs.ListWriting.{stars_of, file_of}
use Rattle.laws.specs.Bytes.{signed_length}

-- ---- lengths

abbrev pub records : List Star → List ℕ
records ss = foldr (λ s rest. record_of s ++ rest) [] ss

pub record_length_lem : (s : Star) → length (record_of s) ≡ record_length
unfolding record_of
record_length_lem s =
    let a = signed_bytes 8 s.ra in
    let b = signed_bytes 8 s.declination in
    let c = signed_bytes 4 s.ra_motion in
    let d = signed_bytes 4 s.declination_motion in
    omega (
      arith,
      length-append (a ++ b ++ c) d,
      length-append (a ++ b) c,
      length-append a b,
      signed_length 8 s.ra,
      signed_length 8 s.declination,
      signed_length 4 s.ra_motion,
      signed_length 4 s.declination_motion,
    )

pub records_length : (ss : List Star) → length (records ss) ≡ record_length * length ss
records_length [] = refl
records_length (s ∷ ss) = omega (arith, length-append (record_of s) (records ss), record_length_lem s, records_length ss)

-- the seven bytes before the records
abbrev pub head_of : ℕ → List ℕ
head_of count = 83 ∷ 76 ∷ 84 ∷ 1 ∷ 0 ∷ count % 256 ∷ count / 256 % 256 ∷ []

pub file_is : (ss : List Star) → file_of ss ≡ head_of (length ss) ++ records ss
unfolding file_of bytes_of
file_is ss = refl

-- "7 + 24 × count bytes"
pub file_length_lem : (ss : List Star) → length (file_of ss) ≡ file_length (length ss)
unfolding file_length
file_length_lem ss =
    ap length (file_is ss) ∙ omega (arith, length-append (head_of (length ss)) (records ss), records_length ss)

pub stars_length : (count : ℕ) (bytes : List ℕ) → length (stars_in count bytes) ≡ count
unfolding stars_in
stars_length zero bytes = refl
stars_length (suc count) bytes = ap suc (stars_length count (drop record_length bytes))

pub stars_of_length : (entries : List Entry) → length (stars_of entries) ≡ length entries
unfolding stars_of
stars_of_length entries = length-map entries (λ e. e.star)

pub file_count : (file : List ℕ) → length (stars file) ≡ count_in file
unfolding stars
file_count file = stars_length (count_in file) (drop head_length file)
