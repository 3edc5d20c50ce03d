-- The list file and its stars: the file of the stars of a file is that file, and the stars of the file of some stars are
-- those stars.
use Rattle.std.specs.Prelude.{◌≡◌, refl, false, List, [], ◌∷◌, ◌++◌, ℕ, zero, suc, ◌+◌, ◌*◌, ◌≤◌, length, take, drop, Ok}
use Rattle.std.proofs.Common.{sym, ◌∙◌, ap, append_assoc, append-nil, arith, length-drop, length-append, take-add, drop_at, take_all, le-leb}
use Rattle.rules.specs.declared.Star.{Star}
use Rattle.rules.specs.Bytes.{of_bytes, bytes_of, part, unsigned_at, signed_at, signed_bytes, same_bytes}
use Rattle.rules.specs.ListFile.{mark, count_in, file_length, star_in, record_of, stars_in, stars, any_refused, record_at}
use Rattle.rules.specs.ListReading.{mark_refused, count_refused, list_count}
use Rattle.rules.specs.ListWriting.{file_of}
use Rattle.rules.specs.ListFile.{head_length, record_length, most_records}
use Rattle.laws.specs.Bytes.{Bytes, signed_length}
use Rattle.laws.specs.FileParts.{drop_bytes, part_part, bytes_of_at, signed_bytes_at, signed_at_after}
use Rattle.laws.specs.FileLength.{records, record_length_lem, head_of, file_is, file_length_lem, stars_length}
use Rattle.laws.specs.FileTests.{Headed, Counted, count_passes}
use Rattle.laws.specs.ListFile.{file_counted}
use Rattle.laws.specs.StarWidths.{StarFits, AllFit, all_fit}

-- ---- the file of a file's stars

record_bytes : (bytes : List ℕ) → Bytes bytes → record_length ≤ length bytes → record_of (star_in bytes) ≡ take record_length bytes
unfolding record_of star_in part
record_bytes bytes byte l =
    (λ i. signed_bytes_at 0 8 bytes byte (omega (arith, l)) i ++ signed_bytes_at 8 8 bytes byte (omega (arith, l)) i
    ++ signed_bytes_at 16 4 bytes byte (omega (arith, l)) i ++ signed_bytes_at 20 4 bytes byte (omega (arith, l)) i)
    ∙ ap (λ r. r ++ part 16 4 bytes ++ part 20 4 bytes) (part_part 0 8 8 bytes)
    ∙ ap (λ r. r ++ part 20 4 bytes) (part_part 0 16 4 bytes) ∙ part_part 0 20 4 bytes

records_bytes : (count : ℕ) (bytes : List ℕ) → Bytes bytes → record_length * count ≤ length bytes
    → records (stars_in count bytes) ≡ take (record_length * count) bytes
unfolding stars_in
records_bytes zero bytes byte l = refl
records_bytes (suc count) bytes byte l =
    let e : record_length + record_length * count ≡ record_length * suc count = omega arith in
    ap (λ r. r ++ records (stars_in count (drop record_length bytes))) (record_bytes bytes byte (omega (arith, l)))
    ∙ ap (λ r. take record_length bytes ++ r)
    (records_bytes count (drop record_length bytes) (drop_bytes record_length bytes byte) (rw (length-drop record_length bytes) (omega (arith, l))))
    ∙ sym (take-add record_length (record_length * count) bytes) ∙ ap (λ n. take n bytes) e

head_bytes : (file : List ℕ) → Bytes file → Headed file → mark ++ bytes_of 2 1 ++ bytes_of 2 (count_in file) ≡ take head_length file
unfolding count_in part
head_bytes file byte h =
    (λ i. sym h.marked i ++ bytes_of 2 (sym h.version i) ++ bytes_of 2 (unsigned_at 5 2 file))
    ∙ (λ i. part 0 3 file ++ bytes_of_at 3 2 file byte (omega (arith, h.long)) i
    ++ bytes_of_at 5 2 file byte (omega (arith, h.long)) i)
    ∙ ap (λ r. r ++ part 5 2 file) (part_part 0 3 2 file) ∙ part_part 0 5 2 file

pub file_again : (file : List ℕ) → Bytes file → Headed file → Counted file → file_of (stars file) ≡ file
unfolding file_of stars file_length
file_again file byte h c =
    let n = count_in file in
    let size : length file ≡ record_at n = c.size in
    ap (λ m. mark ++ bytes_of 2 1 ++ bytes_of 2 m ++ records (stars_in n (drop head_length file))) (stars_length n (drop head_length file))
    ∙ ap (λ r. r ++ records (stars_in n (drop head_length file))) (head_bytes file byte h)
    ∙ ap (λ r. take head_length file ++ r)
    (records_bytes n (drop head_length file) (drop_bytes head_length file byte) (rw (length-drop head_length file) (omega (arith, size))))
    ∙ sym (take-add head_length (record_length * n) file) ∙ take_all (record_at n) file (omega (arith, size))

-- ---- the stars of the file of some stars

record_again : (s : Star) (rest : List ℕ) → StarFits s → star_in (record_of s ++ rest) ≡ s
unfolding record_of star_in
record_again s rest fits =
    let a = signed_bytes 8 s.ra in
    let b = signed_bytes 8 s.declination in
    let c = signed_bytes 4 s.ra_motion in
    let d = signed_bytes 4 s.declination_motion in
    let bytes = a ++ b ++ c ++ d ++ rest in
    let e₁ : bytes ≡ [] ++ (a ++ (b ++ (c ++ (d ++ rest)))) = simp append_assoc in
    let e₂ : bytes ≡ a ++ (b ++ (c ++ (d ++ rest))) = simp append_assoc in
    let e₃ : bytes ≡ (a ++ b) ++ (c ++ (d ++ rest)) = simp append_assoc in
    let e₄ : bytes ≡ (a ++ b ++ c) ++ (d ++ rest) = simp append_assoc in
    let l₂ : length a ≡ 8 = signed_length 8 s.ra in
    let l₃ : length (a ++ b) ≡ 16 = omega (arith, l₂, length-append a b, signed_length 8 s.declination) in
    let l₄ : length (a ++ b ++ c) ≡ 20 = omega
    (arith, l₃, length-append (a ++ b) c, signed_length 4 s.ra_motion) in
    let ra = ap (signed_at 0 8) e₁ ∙ signed_at_after [] (b ++ (c ++ (d ++ rest))) s.ra 0 7 refl fits.ra_fits in
    let declination =
    ap (signed_at 8 8) e₂ ∙ signed_at_after a (c ++ (d ++ rest)) s.declination 8 7 l₂ fits.declination_fits in
    let ra_motion =
    ap (signed_at 16 4) e₃ ∙ signed_at_after (a ++ b) (d ++ rest) s.ra_motion 16 3 l₃ fits.ra_motion_fits in
    let declination_motion =
    ap (signed_at 20 4) e₄
    ∙ signed_at_after (a ++ b ++ c) rest s.declination_motion 20 3 l₄ fits.declination_motion_fits in
    λ i. record {
      ra = ra i;
      declination = declination i;
      ra_motion = ra_motion i;
      declination_motion = declination_motion i;
    }

records_again : (ss : List Star) (rest : List ℕ) → AllFit ss → stars_in (length ss) (records ss ++ rest) ≡ ss
unfolding stars_in
records_again [] rest fits = refl
records_again (s ∷ ss) rest fits =
    let tail = records ss ++ rest in
    let e : record_of s ++ records ss ++ rest ≡ record_of s ++ tail = append_assoc (record_of s) (records ss) rest in
    ap (λ bytes. star_in bytes ∷ stars_in (length ss) (drop record_length bytes)) e
    ∙ (λ i. record_again s tail fits.0 i ∷ stars_in (length ss) (drop_at (record_of s) tail record_length (record_length_lem s) i))
    ∙ ap (λ r. s ∷ r) (records_again ss rest fits.1)

-- the file of a list of stars holds those stars, whatever stands behind it
pub stars_again : (ss : List Star) (rest : List ℕ) → AllFit ss → stars_in (length ss) (drop head_length (file_of ss ++ rest)) ≡ ss
stars_again ss rest fits =
    ap (λ bytes. stars_in (length ss) (drop head_length (bytes ++ rest))) (file_is ss) ∙ records_again ss rest fits

pub count_again : (ss : List Star) → length ss ≤ most_records → count_in (file_of ss) ≡ length ss
unfolding count_in unsigned_at part of_bytes
count_again ss l = ap (λ bytes. of_bytes (take 2 (drop 5 bytes))) (file_is ss) ∙ omega (arith, l)

head_again : (count : ℕ) (rest : List ℕ) → mark_refused (head_of count ++ rest) ≡ false
unfolding mark_refused part unsigned_at of_bytes same_bytes
head_again count rest = rw (le-leb head_length (length (head_of count ++ rest)) (omega arith))

mark_again : (ss : List Star) → mark_refused (file_of ss) ≡ false
mark_again ss = ap mark_refused (file_is ss) ∙ head_again (length ss) (records ss)

count_kept : (ss : List Star) → length ss ≤ most_records → count_refused (file_of ss) ≡ false
count_kept ss l =
    let count = count_again ss l in
    count_passes (file_of ss) (omega (arith, count, l)) (file_length_lem ss ∙ ap file_length (sym count))

pub stars_kept : (ss : List Star) → length ss ≤ most_records → AllFit ss → stars (file_of ss) ≡ ss
unfolding stars
stars_kept ss l fits =
    ap (λ n. stars_in n (drop head_length (file_of ss))) (count_again ss l)
    ∙ ap (λ bytes. stars_in (length ss) (drop head_length bytes)) (sym (append-nil (file_of ss))) ∙ stars_again ss [] fits

-- the file of accepted stars is accepted, with their count
pub file_kept_lem : (ss : List Star) → length ss ≤ most_records → any_refused ss ≡ false
    → list_count (file_of ss) ≡ Ok (length ss)
file_kept_lem ss l a =
    file_counted (file_of ss) (mark_again ss) (count_kept ss l) (ap any_refused (stars_kept ss l (all_fit ss a)) ∙ a)
    ∙ ap Ok (count_again ss l)
