-- `list_from_numbers::list_write` meets its contract.
use Rattle.std.proofs.Common.{rules, ◌≤◌, false, ◌≡◌, refl, sym, ◌∙◌, ap, List, ◌∷◌, ◌++◌, map, ℕ, zero, suc, ◌/◌, ◌%◌, arith, length, take, drop, ℤ, pos, Ok, Err}
use Rattle.std.proofs.lemmas.List.{get_or-take}
use Rattle.std.specs.Simd.{first_chunks}
use borrow.Author.Tests.{eqb-true, eqb-false}
use Rattle.rules.specs.declared.Refusal.{Refusal}
use Rattle.rules.specs.ListFile.{most_records, file_length, any_refused, head_length}
use Rattle.rules.specs.ListReading.{leaving}
use Rattle.rules.specs.ListWriting.{file_of, room_refused, written_of, star_from, stars_from, count_from, number_stars, row_refused, numbers_written, room_after_numbers}
use Rattle.laws.specs.FileLength.{head_of}
use Rattle.laws.specs.StarWidths.{all_fit}
use Rattle.laws.specs.ListFile.{numbers_kept}
use Rattle.laws.specs.ListWriting.{numbers_refused_5, numbers_refused_11, row_accepted, row_uneven, row_even, number_count}
use Rattle.list_bytes.specs.Puts.{put}
use Rattle.list_records.specs.Records.{low_records, low_records_lem, file_put}
use Rattle.list_from_numbers.proofs.list_write.Goals as goal

-- the first four numbers of a row are its star
first_star : (numbers : List ℤ) → star_from (take 4 numbers) ≡ star_from numbers
unfolding star_from
first_star numbers = λ i. record {
  ra = get_or-take 4 numbers 0 (pos 0) (omega arith) i;
  declination = get_or-take 4 numbers 1 (pos 0) (omega arith) i;
  ra_motion = get_or-take 4 numbers 2 (pos 0) (omega arith) i;
  declination_motion = get_or-take 4 numbers 3 (pos 0) (omega arith) i;
}

all_stars : (count : ℕ) (numbers : List ℤ) → map star_from (first_chunks 4 count numbers) ≡ stars_from count numbers
unfolding stars_from
all_stars zero numbers = refl
all_stars (suc count) numbers = λ i. first_star numbers i ∷ all_stars count (drop 4 numbers) i

-- a refusal: its answer, and the room as it was
refuses : (numbers : List ℤ) (room : List ℕ) (r : Refusal) → numbers_written numbers room ≡ Err r
    → (Err r ≡ numbers_written numbers room) × (room ≡ room_after_numbers numbers room)
refuses numbers room r e = (sym e, sym (numbers_kept numbers room r e))

-- a file: its length, and its bytes with those past it
writes : (numbers : List ℤ) (room after : List ℕ)
    → numbers_written numbers room ≡ Ok (file_length (count_from numbers))
    → after ≡ file_of (number_stars numbers) ++ drop (file_length (count_from numbers)) room
    → after ≡ room_after_numbers numbers room
unfolding room_after_numbers leaving
writes numbers room after e f = rw e f

-- the row as its whole stars
module _ (numbers : List ℤ) (room : List ℕ) (rows : List (List ℤ)) (rows_are : rows ≡ first_chunks 4 (length numbers / 4) numbers)
    (long : length rows ≡ length numbers / 4) where
  stars_are : map star_from rows ≡ number_stars numbers
  unfolding number_stars count_from
  stars_are = ap (map star_from) rows_are ∙ all_stars (length numbers / 4) numbers

  count_is : length rows ≡ count_from numbers
  unfolding count_from
  count_is = long

  module _ (accepted : any_refused (number_stars numbers) ≡ false) (even : length numbers % 4 ≡ 0) where
    -- its file's length is its answer
    answer_is : written_of false (room_refused (length rows) (length room)) (length rows) ≡ numbers_written numbers room
    unfolding numbers_written
    answer_is =
        let by = ap (λ n. room_refused n (length room)) count_is ∙ sym (row_even numbers (length room) even) in
        λ i. written_of (sym accepted i) (by i) (count_is i)

    module _ (size : ℕ) (answer : Ok size ≡ written_of false (room_refused (length rows) (length room)) (length rows)) where
      written : numbers_written numbers room ≡ Ok size
      written = sym (answer ∙ answer_is)

      few : length rows ≤ most_records
      few = rw count_is (row_accepted numbers room size written).few

      fits : file_length (length rows) ≤ length room
      fits = rw count_is (row_accepted numbers room size written).fits

pub returns-then-any_refused : goal.returns-then-any_refused
returns-then-any_refused c =
    let numbers = c.args.numbers.now in
    let room = c.args.room.now in
    let chunks = c.as_chunks.ensures in
    let stars = stars_are numbers room _ chunks.front chunks.front_len in
    refuses numbers room Refusal.Star
    (numbers_refused_5 numbers room (ap any_refused (sym stars) ∙ sym c.any_refused.ensures ∙ c.if-any_refused.true))

pub returns-then-not-is_empty : goal.returns-then-not-is_empty
returns-then-not-is_empty c =
    let numbers = c.args.numbers.now in
    let room = c.args.room.now in
    let chunks = c.as_chunks.ensures in
    let accepted = ap any_refused (sym (stars_are numbers room _ chunks.front chunks.front_len)) ∙ sym c.any_refused.ensures ∙ c.if-any_refused.false in
    let some = eqb-false _ 0 (sym c.is_empty.ensures ∙ c.if-not-is_empty.true) in
    refuses numbers room Refusal.Room
    (numbers_refused_11 numbers room accepted (row_uneven numbers (length room) (λ e. some (chunks.back_len ∙ e))))

pub returns-in_err-length : goal.returns-in_err-length
returns-in_err-length c =
    let numbers = c.args.numbers.now in
    let room = c.args.room.now in
    let chunks = c.as_chunks.ensures in
    let accepted = ap any_refused (sym (stars_are numbers room _ chunks.front chunks.front_len)) ∙ sym c.any_refused.ensures ∙ c.if-any_refused.false in
    let even = sym chunks.back_len ∙ eqb-true _ 0 (sym c.is_empty.ensures ∙ c.if-not-is_empty.false) in
    let e = sym (c.in_err-length.ensures ∙ answer_is numbers room _ chunks.front chunks.front_len accepted even) in
    (rw e (search rules), sym (numbers_kept numbers room _ e))

pub put_stars-requires : goal.put_stars-requires
unfolding file_length
put_stars-requires c =
    let numbers = c.args.numbers.now in
    let room = c.args.room.now in
    let chunks = c.as_chunks.ensures in
    let accepted = ap any_refused (sym (stars_are numbers room _ chunks.front chunks.front_len)) ∙ sym c.any_refused.ensures ∙ c.if-any_refused.false in
    let even = sym chunks.back_len ∙ eqb-true _ 0 (sym c.is_empty.ensures ∙ c.if-not-is_empty.false) in
    fits numbers room _ chunks.front chunks.front_len accepted even _ c.in_ok-length.ensures

pub put_head-requires : goal.put_head-requires
unfolding file_length
put_head-requires c =
    let numbers = c.args.numbers.now in
    let room = c.args.room.now in
    let chunks = c.as_chunks.ensures in
    let accepted = ap any_refused (sym (stars_are numbers room _ chunks.front chunks.front_len)) ∙ sym c.any_refused.ensures ∙ c.if-any_refused.false in
    let even = sym chunks.back_len ∙ eqb-true _ 0 (sym c.is_empty.ensures ∙ c.if-not-is_empty.false) in (
      omega (arith, fits numbers room _ chunks.front chunks.front_len accepted even _ c.in_ok-length.ensures, c.put_stars.auto.room),
      omega (arith, few numbers room _ chunks.front chunks.front_len accepted even _ c.in_ok-length.ensures),
    )

pub returns : goal.returns
returns c =
    let numbers = c.args.numbers.now in
    let room = c.args.room.now in
    let chunks = c.as_chunks.ensures in
    let stars = stars_are numbers room _ chunks.front chunks.front_len in
    let count = count_is numbers room _ chunks.front chunks.front_len in
    let accepted = ap any_refused (sym stars) ∙ sym c.any_refused.ensures ∙ c.if-any_refused.false in
    let even = sym chunks.back_len ∙ eqb-true _ 0 (sym c.is_empty.ensures ∙ c.if-not-is_empty.false) in
    let answer = written numbers room _ chunks.front chunks.front_len accepted even _ c.in_ok-length.ensures in
    let is = row_accepted numbers room _ answer in (
      sym answer,
      writes numbers room c.put_head.new.room (answer ∙ ap Ok is.size_is)
          (c.put_head.ensures
          ∙ (λ i. put (c.put_stars.ensures i) 0 (head_of (count i)))
          ∙ ap (λ ss. put (put room head_length (low_records ss)) 0 (head_of (count_from numbers))) stars
          ∙ ap (λ r. put (put room head_length r) 0 (head_of (count_from numbers)))
          (low_records_lem (number_stars numbers) (all_fit (number_stars numbers) accepted))
          ∙ file_put (number_stars numbers) room (count_from numbers) (number_count numbers) is.fits),
    )
