-- The round trip of the list file. Read and written back, it is byte-equal; written and read back, the stars are the
-- same.
use Rattle.std.specs.Prelude.{◌≡◌, refl, List, [], ◌∷◌, ◌++◌, map, ℕ, ◌≤◌, length, take, drop, Ok}
use Rattle.std.proofs.Common.{sym, ◌∙◌, ap, arith, take_at}
use Rattle.std.proofs.lemmas.List.{length-map}
use Rattle.rules.specs.declared.Star.{Star}
use Rattle.rules.specs.declared.Entry.{Entry}
use Rattle.rules.specs.ListFile.{head_length, most_records, count_in, file_length, stars_in, stars, any_refused}
use Rattle.rules.specs.ListReading.{list_read, fresh_entry, leaving, entries_after_read}
use Rattle.rules.specs.ListWriting.{stars_of, file_of, list_written, room_after_write}
use Rattle.laws.specs.Bytes.{Bytes}
use Rattle.laws.specs.FileLength.{file_length_lem, stars_length, stars_of_length, file_count}
use Rattle.laws.specs.FileTests.{headed, counted}
use Rattle.laws.specs.ListFile.{read_accepted, read_counted}
use Rattle.laws.specs.ListWriting.{write_counted, write_accepted}
use Rattle.laws.specs.StarWidths.{all_fit}
use Rattle.laws.specs.FileAgain.{file_again, file_kept_lem, stars_kept}

-- ---- read and written back

stars_fresh : (ss : List Star) → stars_of (map fresh_entry ss) ≡ ss
unfolding stars_of fresh_entry
stars_fresh [] = refl
stars_fresh (s ∷ ss) = ap (λ r. s ∷ r) (stars_fresh ss)

-- the entries that a file is read into
pub entries_read : (file : List ℕ) (entries : List Entry) (count : ℕ) → list_read file entries ≡ Ok count
    → take count (entries_after_read file entries) ≡ map fresh_entry (stars file)
unfolding entries_after_read leaving stars
entries_read file entries count e =
    let n = count_in file in
    let is = (read_accepted file entries count e).0.count_is in
    let long : length (map fresh_entry (stars_in n (drop head_length file))) ≡ count =
    length-map (stars_in n (drop head_length file)) fresh_entry ∙ stars_length n (drop head_length file) ∙ sym is in
    rw e (take_at (map fresh_entry (stars_in n (drop head_length file))) (drop n entries) count long)

-- what is read of a file and written into room for it is that file, byte for byte, and the bytes past it stay
pub read_then_written : (file : List ℕ) → Bytes file → (entries : List Entry) (count : ℕ)
    → list_read file entries ≡ Ok count → (room : List ℕ) → length file ≤ length room
    → (list_written (take count (entries_after_read file entries)) room ≡ Ok (length file))
    × (room_after_write (take count (entries_after_read file entries)) room ≡ file ++ drop (length file) room)
unfolding room_after_write leaving
read_then_written file byte entries count e room l =
    let read = take count (entries_after_read file entries) in
    let ok = (read_accepted file entries count e).0 in
    let c = counted file ok.not_10 in
    let same : stars_of read ≡ stars file = ap stars_of (entries_read file entries count e) ∙ stars_fresh (stars file) in
    let long : length read ≡ count_in file =
    sym (stars_of_length read) ∙ ap length same ∙ file_count file in
    let size : file_length (length read) ≡ length file = ap file_length long ∙ sym c.size in
    let answer = write_counted read room (ap any_refused same ∙ ok.not_5) (omega (arith, long, c.few))
    (omega (arith, size, l)) in
    let text = ap file_of same ∙ file_again file byte (headed file ok.not_9) c in
    (answer ∙ ap Ok size, rw answer (λ i. text i ++ drop (size i) room))

-- ---- written and read back

-- what is written of entries is read, into room for them, without a refusal, and the stars are the same
pub written_then_read : (entries : List Entry) (room : List ℕ) (size : ℕ) → list_written entries room ≡ Ok size
    → (others : List Entry) → length entries ≤ length others
    → (list_read (take size (room_after_write entries room)) others ≡ Ok (length entries))
    × (stars (take size (room_after_write entries room)) ≡ stars_of entries)
unfolding room_after_write leaving
written_then_read entries room size e others l =
    let ok = write_accepted entries room size e in
    let ss = stars_of entries in
    let count = stars_of_length entries in
    let long : length (file_of ss) ≡ size = file_length_lem ss ∙ ap file_length count ∙ sym ok.size_is in
    let few : length ss ≤ most_records = omega (arith, ok.few, count) in
    let file : take size (leaving (list_written entries room)
    (file_of ss ++ drop (file_length (length entries)) room) room)
    ≡ file_of ss = rw e (take_at (file_of ss) (drop (file_length (length entries)) room) size long) in (
      ap (λ bytes. list_read bytes others) file
          ∙ read_counted (file_of ss) others (length entries) (file_kept_lem ss few ok.not_5 ∙ ap Ok count) l,
      ap stars file ∙ stars_kept ss few (all_fit ss ok.not_5),
    )
