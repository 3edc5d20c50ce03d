-- Records as they are written, number by number: how long they are, and that accepted stars are written so.
use Rattle.std.specs.Prelude.{◌≡◌, refl, List, [], ◌∷◌, ◌++◌, ℕ, ◌+◌, ◌*◌, ◌≤◌, length, get_or, drop, ℤ, pos}
use Rattle.std.proofs.Common.{sym, ◌∙◌, ap, append_assoc, append-nil, arith, length-append, get_or-drop}
use Rattle.rules.specs.declared.Star.{Star}
use Rattle.rules.specs.ListFile.{head_length, record_length, file_length, record_of}
use Rattle.rules.specs.ListWriting.{file_of, star_from}
use Rattle.laws.specs.ByteByByte.{low_bytes, low_bytes_lem, low_length}
use Rattle.laws.specs.StarWidths.{StarFits, AllFit}
use Rattle.laws.specs.FileLength.{records, head_of, file_is, file_length_lem, records_length}
use Rattle.stars.specs.Numbers.{star_of}
use Rattle.list_bytes.specs.Puts.{put, put_before, put_first}

-- the lowest bytes of a star's four numbers
unfoldable pub low_record : Star → List ℕ
low_record s = low_bytes 8 s.ra ++ low_bytes 8 s.declination
    ++ low_bytes 4 s.ra_motion ++ low_bytes 4 s.declination_motion

unfoldable pub low_records : List Star → List ℕ
low_records [] = []
low_records (s ∷ ss) = low_record s ++ low_records ss

-- in two pairs
pub low_pairs : (s : Star) → low_bytes 8 s.ra ++ low_bytes 8 s.declination
    ++ (low_bytes 4 s.ra_motion ++ low_bytes 4 s.declination_motion) ≡ low_record s
unfolding low_record
low_pairs s = sym (append_assoc (low_bytes 8 s.ra ++ low_bytes 8 s.declination) (low_bytes 4 s.ra_motion)
    (low_bytes 4 s.declination_motion))

pub pair_length : (width : ℕ) (a b : ℤ) → length (low_bytes width a ++ low_bytes width b) ≡ width + width
pair_length width a b =
    omega (arith, length-append (low_bytes width a) (low_bytes width b), low_length width a, low_length width b)

pub low_record_length : (s : Star) → length (low_record s) ≡ record_length
low_record_length s =
    ap length (sym (low_pairs s)) ∙ omega (
      arith,
      length-append (low_bytes 8 s.ra ++ low_bytes 8 s.declination)
          (low_bytes 4 s.ra_motion ++ low_bytes 4 s.declination_motion),
      pair_length 8 s.ra s.declination,
      pair_length 4 s.ra_motion s.declination_motion,
    )

pub low_records_length : (ss : List Star) → length (low_records ss) ≡ record_length * length ss
unfolding low_records
low_records_length [] = refl
low_records_length (s ∷ ss) =
    omega (arith, length-append (low_record s) (low_records ss), low_record_length s, low_records_length ss)

-- one more
pub low_snoc : (ss : List Star) (s : Star) → low_records ss ++ low_record s ≡ low_records (ss ++ (s ∷ []))
unfolding low_records
low_snoc [] s = sym (append-nil (low_record s))
low_snoc (t ∷ ss) s = append_assoc (low_record t) (low_records ss) (low_record s)
    ∙ ap (λ r. low_record t ++ r) (low_snoc ss s)

-- a star whose numbers are of their widths is written as its record
pub low_record_lem : (s : Star) → StarFits s → low_record s ≡ record_of s
unfolding low_record record_of
low_record_lem s fits =
    λ i. low_bytes_lem 7 s.ra fits.ra_fits i ++ low_bytes_lem 7 s.declination fits.declination_fits i
    ++ low_bytes_lem 3 s.ra_motion fits.ra_motion_fits i
    ++ low_bytes_lem 3 s.declination_motion fits.declination_motion_fits i

pub low_records_lem : (ss : List Star) → AllFit ss → low_records ss ≡ records ss
unfolding low_records
low_records_lem [] fits = refl
low_records_lem (s ∷ ss) fits = λ i. low_record_lem s fits.0 i ++ low_records_lem ss fits.1 i

-- a star of a row, by its four numbers
pub row_star : (at : ℕ) (numbers : List ℤ)
    → star_of (get_or numbers at (pos 0)) (get_or numbers (at + 1) (pos 0)) (get_or numbers (at + 2) (pos 0))
    (get_or numbers (at + 3) (pos 0)) ≡ star_from (drop at numbers)
unfolding star_from
row_star at numbers =
    let here : at ≡ at + 0 = omega arith in
    let ra = ap (λ n. get_or numbers n (pos 0)) here ∙ sym (get_or-drop at numbers 0 (pos 0)) in
    let declination = sym (get_or-drop at numbers 1 (pos 0)) in
    let ra_motion = sym (get_or-drop at numbers 2 (pos 0)) in
    let declination_motion = sym (get_or-drop at numbers 3 (pos 0)) in
    λ i. star_of (ra i) (declination i) (ra_motion i) (declination_motion i)

-- records put after the head's place, and then the head: the file, and what stood past it
pub file_put : (ss : List Star) (room : List ℕ) (count : ℕ) → length ss ≡ count → file_length count ≤ length room
    → put (put room head_length (records ss)) 0 (head_of count) ≡ file_of ss ++ drop (file_length count) room
unfolding file_length
file_put ss room count e l =
    let long = records_length ss in
    put_before room head_length (head_of count) (records ss) refl (omega (arith, long, e, l))
    ∙ ap (put room 0) (ap (λ n. head_of n ++ records ss) (sym e) ∙ sym (file_is ss))
    ∙ put_first room (file_of ss) (file_length count) (file_length_lem ss ∙ ap file_length e)
