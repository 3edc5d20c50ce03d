-- The round trip of the list file as C makes it, star by star: the four numbers of each star of a file, in a row, are
-- written as that file; and a row of numbers that is written is read as those numbers.
use Rattle.std.specs.Prelude.{◌≡◌, refl, false, ℕ, zero, suc, ◌+◌, ◌*◌, ◌/◌, ◌%◌, ◌<◌, ◌≤◌, length, take, drop, get_or, ℤ, pos, Ok}
use Rattle.std.proofs.Common.{sym, ◌∙◌, ap, arith, take_at, drop-drop, get_or-drop, lt-ltb}
use mathlib.Core.List.{List, [], ◌∷◌, ◌++◌, map, flat_map, append-nil}
use Rattle.rules.specs.declared.Star.{Star}
use Rattle.rules.specs.Years.{up_from}
use Rattle.rules.specs.Refusals.{given}
use Rattle.rules.specs.Answers.{listed_star_answer}
use Rattle.rules.specs.ListFile.{file_length, star_in, stars_in, stars, any_refused}
use Rattle.rules.specs.ListReading.{list_count, leaving, star_at, list_star}
use Rattle.rules.specs.ListWriting.{star_from, stars_from, count_from, number_stars, file_of}
use Rattle.rules.specs.ListWriting.{numbers_written, room_after_numbers}
use Rattle.rules.specs.ListFile.{head_length, record_length, most_records}
use Rattle.laws.specs.Bytes.{Bytes}
use Rattle.laws.specs.Records.{stars_in_each, stars_from_each, each_nth}
use Rattle.laws.specs.FileLength.{file_length_lem, file_count}
use Rattle.laws.specs.FileTests.{headed, counted}
use Rattle.laws.specs.ListFile.{file_accepted, accepted_size, accepted_few}
use Rattle.laws.specs.StarWidths.{all_fit}
use Rattle.laws.specs.ListWriting.{row_even, room_enough, numbers_counted, row_accepted, number_count}
use Rattle.laws.specs.FileAgain.{file_again, file_kept_lem, stars_again}

-- the four numbers of a star, as they are answered
abbrev four_of : Star → List ℤ
four_of s = (listed_star_answer (Ok s)).values

-- the numbers of the stars of a file by their indexes, from 0 to below the count, one behind the other
abbrev pub numbers_in : List ℕ → ℕ → List ℤ
numbers_in file count = flat_map (λ i. (listed_star_answer (list_star file i)).values) (up_from 0 count)

-- ---- the stars of a file, one by one

-- a star of an accepted file by its index
star_of_lem : (file : List ℕ) (count i : ℕ) → list_count file ≡ Ok count → i < count
    → list_star file i ≡ Ok (star_in (drop (record_length * i) (drop head_length file)))
unfolding list_star star_at file_length
star_of_lem file count i e l =
    let below = lt-ltb i count l in
    rw (e, below) (ap (λ bytes. Ok (star_in bytes)) (sym (drop-drop (record_length * i) head_length file)))

-- the last `left` of them
stars_from_lem : (file : List ℕ) (count : ℕ) → list_count file ≡ Ok count → (left i : ℕ) → i + left ≡ count
    → flat_map (λ j. (listed_star_answer (list_star file j)).values) (up_from i left)
    ≡ flat_map four_of (stars_in left (drop (record_length * i) (drop head_length file)))
unfolding flat_map up_from stars_in
stars_from_lem file count e zero i h = refl
stars_from_lem file count e (suc left) i h =
    let bytes = drop head_length file in
    let next : record_length * suc i ≡ record_length * i + record_length = omega arith in
    let further = ap (λ n. drop n bytes) next ∙ sym (drop-drop record_length (record_length * i) bytes) in
    (λ j. (listed_star_answer (star_of_lem file count i e (omega (arith, h)) j)).values
    ++ stars_from_lem file count e left (suc i) (omega (arith, h)) j)
    ∙ ap (λ rest. four_of (star_in (drop (record_length * i) bytes)) ++ flat_map four_of (stars_in left rest)) further

-- all of them
numbers_in_lem : (file : List ℕ) (count : ℕ) → list_count file ≡ Ok count
    → numbers_in file count ≡ flat_map four_of (stars file)
unfolding stars
numbers_in_lem file count e =
    stars_from_lem file count e count 0 (omega arith)
    ∙ ap (λ n. flat_map four_of (stars_in n (drop head_length file))) (file_accepted file count e).count_is

-- ---- read star by star and written back, a file is byte-equal

row_length : (ss : List Star) → length (flat_map four_of ss) ≡ 4 * length ss
unfolding flat_map listed_star_answer given
row_length [] = refl
row_length (s ∷ ss) = omega (arith, row_length ss)

row_stars : (ss : List Star) → stars_from (length ss) (flat_map four_of ss) ≡ ss
unfolding flat_map listed_star_answer given stars_from star_from
row_stars [] = refl
row_stars (s ∷ ss) = ap (λ r. s ∷ r) (row_stars ss)

-- what is written of the numbers of each star of a file into room for it is that file, byte for byte, and the bytes
-- past it stay
pub stars_then_written : (file : List ℕ) → Bytes file → (count : ℕ) → list_count file ≡ Ok count
    → (room : List ℕ) → length file ≤ length room
    → (numbers_written (numbers_in file count) room ≡ Ok (length file))
    × (room_after_numbers (numbers_in file count) room ≡ file ++ drop (length file) room)
unfolding count_from number_stars room_after_numbers leaving
stars_then_written file byte count e room l =
    let ok = file_accepted file count e in
    let row = numbers_in file count in
    let many : length (stars file) ≡ count = file_count file ∙ sym ok.count_is in
    let long : length row ≡ 4 * count =
    ap length (numbers_in_lem file count e) ∙ row_length (stars file) ∙ ap (λ n. 4 * n) many in
    let of : count_from row ≡ count = omega (arith, long) in
    let same : number_stars row ≡ stars file =
    (λ j. stars_from ((of ∙ sym many) j) (numbers_in_lem file count e j)) ∙ row_stars (stars file) in
    let size : file_length (count_from row) ≡ length file =
    ap file_length of ∙ sym (accepted_size file count e) in
    let enough = row_even row (length room) (omega (arith, long))
    ∙ room_enough (count_from row) (length room) (omega (arith, of, accepted_few file count e))
    (omega (arith, size, l)) in
    let answer = numbers_counted row room (ap any_refused same ∙ ok.not_5) enough in
    let text = ap file_of same ∙ file_again file byte (headed file ok.not_9) (counted file ok.not_10) in
    (answer ∙ ap Ok size, rw answer (λ i. text i ++ drop (size i) room))

-- ---- written and read back star by star, the numbers are the same

-- the four numbers of star i of a row
abbrev pub four_at : List ℤ → ℕ → List ℤ
four_at numbers i =
    get_or numbers (4 * i) (pos 0) ∷ get_or numbers (4 * i + 1) (pos 0)
    ∷ get_or numbers (4 * i + 2) (pos 0) ∷ get_or numbers (4 * i + 3) (pos 0) ∷ []

star_at_lem : (numbers : List ℤ) (i : ℕ)
    → listed_star_answer (Ok (star_from (drop (4 * i) numbers))) ≡ given (four_at numbers i)
unfolding star_from listed_star_answer given
star_at_lem numbers i =
    let first : 4 * i + 0 ≡ 4 * i = omega arith in
    simp (get_or-drop, first)

-- the numbers of a row's stars are the row
row_again : (count : ℕ) (numbers : List ℤ) → length numbers ≡ 4 * count
    → flat_map four_of (stars_from count numbers) ≡ numbers
unfolding flat_map listed_star_answer given stars_from star_from
row_again zero [] h = refl
row_again zero (a ∷ rest) h = absurd (omega (arith, h))
row_again (suc count) [] h = absurd (omega (arith, h))
row_again (suc count) (a ∷ []) h = absurd (omega (arith, h))
row_again (suc count) (a ∷ b ∷ []) h = absurd (omega (arith, h))
row_again (suc count) (a ∷ b ∷ c ∷ []) h = absurd (omega (arith, h))
row_again (suc count) (a ∷ b ∷ c ∷ d ∷ rest) h =
    ap (λ r. a ∷ b ∷ c ∷ d ∷ r) (row_again count rest (omega (arith, h)))

-- what is read of a file that was written of a row of numbers: as many stars as there are fours, each with its four
-- numbers, and no number of the row is left over
pub record ReadBack (numbers : List ℤ) (file : List ℕ) : Type 0 where
  pub count : list_count file ≡ Ok (length numbers / 4)
  pub star : (i : ℕ) → i < length numbers / 4 → listed_star_answer (list_star file i) ≡ given (four_at numbers i)
  pub row : numbers_in file (length numbers / 4) ≡ numbers

-- of the file of a row
file_back : (numbers : List ℤ) → length numbers % 4 ≡ 0 → count_from numbers ≤ most_records
    → any_refused (number_stars numbers) ≡ false → ReadBack numbers (file_of (number_stars numbers))
unfolding number_stars count_from
file_back numbers even few none =
    let n = count_from numbers in
    let ss = number_stars numbers in
    let file = file_of ss in
    let bytes = drop head_length file in
    let many = number_count numbers in
    let count : list_count file ≡ Ok n =
    file_kept_lem ss (omega (arith, few, many)) none ∙ ap Ok many in
    let same : stars_in n bytes ≡ ss = (λ j. stars_in (sym many j) (drop head_length (sym (append-nil file) j)))
    ∙ stars_again ss [] (all_fit ss none) in
    let each_same = sym (stars_in_each n bytes) ∙ same ∙ stars_from_each n numbers in
    let other = Ok (star_in []) in
    record {
      count = count;
      star = λ i l. ap listed_star_answer (star_of_lem file n i count l
          ∙ sym (each_nth star_in record_length Ok n i bytes other l)
          ∙ ap (λ r. get_or (map Ok r) i other) each_same
          ∙ each_nth star_from 4 Ok n i numbers other l) ∙ star_at_lem numbers i;
      row = stars_from_lem file n count n 0 (omega arith) ∙ ap (flat_map four_of) same
          ∙ row_again n numbers (omega (arith, even));
    }

pub written_then_stars : (numbers : List ℤ) (room : List ℕ) (size : ℕ) → numbers_written numbers room ≡ Ok size
    → ReadBack numbers (take size (room_after_numbers numbers room))
unfolding room_after_numbers leaving
written_then_stars numbers room size e =
    let ok = row_accepted numbers room size e in
    let n = count_from numbers in
    let file = file_of (number_stars numbers) in
    let long : length file ≡ size =
    file_length_lem (number_stars numbers) ∙ ap file_length (number_count numbers) ∙ sym ok.size_is in
    let is : take size (leaving (numbers_written numbers room) (file ++ drop (file_length n) room) room) ≡ file =
    rw e (take_at file (drop (file_length n) room) size long) in
    rw is (file_back numbers ok.even ok.few ok.not_5)
