-- What a writer of a list file answers, exactly when, in the order 5, 11; of entries, and of a row of numbers.
use Rattle.std.specs.Prelude.{◌≡◌, refl, Bool, true, false, not, List, ℕ, ◌%◌, ◌<◌, ◌≤◌, length, eqb, ltb, ℤ, Ok, Err}
use Rattle.std.proofs.Common.{◌∙◌, ap, arith, lt-ltb, le-ltb, ltb-false, eqb-true, eq-eqb, ne_eqb}
use Rattle.std.proofs.lemmas.Bool.{not-false}
use Rattle.rules.specs.declared.Entry.{Entry}
use Rattle.rules.specs.declared.Refusal.{Refusal}
use Rattle.rules.specs.ListFile.{most_records, file_length, any_refused}
use Rattle.rules.specs.ListWriting.{stars_of, room_refused, written_of, list_written, numbers_written}
use Rattle.rules.specs.ListWriting.{star_from, count_from, number_stars, row_refused}
use Rattle.laws.specs.Records.{or_false, stars_from_each, each_length}

writes_case : (a b : Bool) (n : ℕ) → a ≡ false → b ≡ false → written_of a b n ≡ Ok (file_length n)
unfolding written_of
writes_case a b n e f = rw (e, f)

pub write_counted : (entries : List Entry) (room : List ℕ) → any_refused (stars_of entries) ≡ false → length entries ≤ most_records
    → file_length (length entries) ≤ length room → list_written entries room ≡ Ok (file_length (length entries))
unfolding list_written room_refused
write_counted entries room a l h =
    let few = le-ltb most_records (length entries) l in
    let fits = le-ltb (length room) (file_length (length entries)) h in
    writes_case (any_refused (stars_of entries)) _ (length entries) a (rw few fits)

written_case : (a b : Bool) (n size : ℕ) → written_of a b n ≡ Ok size
    → (a ≡ false) × ((b ≡ false) × (size ≡ file_length n))
unfolding written_of
written_case true b n size e = let z : ◌≡◌ {A = ℕ} 0 1 = cc in absurd (omega arith)
written_case false true n size e = let z : ◌≡◌ {A = ℕ} 0 1 = cc in absurd (omega arith)
written_case false false n size e = (refl, (refl, cc))

-- what is not refused to a writer
pub record WriteAccepted (entries : List Entry) (room : List ℕ) (size : ℕ) : Type 0 where
  pub not_5 : any_refused (stars_of entries) ≡ false
  pub few : length entries ≤ most_records
  pub fits : file_length (length entries) ≤ length room
  pub size_is : size ≡ file_length (length entries)

pub write_accepted : (entries : List Entry) (room : List ℕ) (size : ℕ) → list_written entries room ≡ Ok size
    → WriteAccepted entries room size
unfolding list_written room_refused
write_accepted entries room size e =
    let k = written_case (any_refused (stars_of entries)) _ (length entries) size e in
    let l = or_false (ltb most_records (length entries)) (ltb (length room) (file_length (length entries))) k.1.0 in
    record {
      not_5 = k.0;
      few = ltb-false most_records (length entries) l.0;
      fits = ltb-false (length room) (file_length (length entries)) l.1;
      size_is = k.1.1;
    }

pub write_refused_5 : (entries : List Entry) (room : List ℕ) → any_refused (stars_of entries) ≡ true
    → list_written entries room ≡ Err Refusal.Star
unfolding list_written written_of
write_refused_5 entries room a = rw a

pub write_refused_11 : (entries : List Entry) (room : List ℕ) → any_refused (stars_of entries) ≡ false
    → room_refused (length entries) (length room) ≡ true → list_written entries room ≡ Err Refusal.Room
unfolding list_written written_of
write_refused_11 entries room a b = rw (a, b)

-- ---- a row of numbers, four to a star

pub numbers_refused_5 : (numbers : List ℤ) (room : List ℕ) → any_refused (number_stars numbers) ≡ true
    → numbers_written numbers room ≡ Err Refusal.Star
unfolding numbers_written written_of
numbers_refused_5 numbers room a = rw a

pub numbers_refused_11 : (numbers : List ℤ) (room : List ℕ) → any_refused (number_stars numbers) ≡ false
    → row_refused numbers (length room) ≡ true → numbers_written numbers room ≡ Err Refusal.Room
unfolding numbers_written written_of
numbers_refused_11 numbers room a b = rw (a, b)

pub numbers_counted : (numbers : List ℤ) (room : List ℕ) → any_refused (number_stars numbers) ≡ false
    → row_refused numbers (length room) ≡ false
    → numbers_written numbers room ≡ Ok (file_length (count_from numbers))
unfolding numbers_written
numbers_counted numbers room a b = writes_case (any_refused (number_stars numbers)) _ (count_from numbers) a b

-- what is not refused of a row
pub record RowAccepted (numbers : List ℤ) (room : List ℕ) (size : ℕ) : Type 0 where
  pub not_5 : any_refused (number_stars numbers) ≡ false
  pub even : length numbers % 4 ≡ 0
  pub few : count_from numbers ≤ most_records
  pub fits : file_length (count_from numbers) ≤ length room
  pub size_is : size ≡ file_length (count_from numbers)

pub row_accepted : (numbers : List ℤ) (room : List ℕ) (size : ℕ) → numbers_written numbers room ≡ Ok size
    → RowAccepted numbers room size
unfolding numbers_written row_refused room_refused
row_accepted numbers room size e =
    let n = count_from numbers in
    let k = written_case (any_refused (number_stars numbers)) _ n size e in
    let l = or_false (not (eqb (length numbers % 4) 0)) _ k.1.0 in
    let m = or_false (ltb most_records n) (ltb (length room) (file_length n)) l.1 in
    record {
      not_5 = k.0;
      even = eqb-true (length numbers % 4) 0 (not-false _ l.0);
      few = ltb-false most_records n m.0;
      fits = ltb-false (length room) (file_length n) m.1;
      size_is = k.1.1;
    }

-- the last star has not all its numbers
pub row_uneven : (numbers : List ℤ) (room : ℕ) → (length numbers % 4 ≡ 0 → ⊥) → row_refused numbers room ≡ true
unfolding row_refused
row_uneven numbers room h = let uneven = ne_eqb (length numbers % 4) 0 h in rw uneven

pub row_even : (numbers : List ℤ) (room : ℕ) → length numbers % 4 ≡ 0
    → row_refused numbers room ≡ room_refused (count_from numbers) room
unfolding row_refused
row_even numbers room h = let even = eq-eqb (length numbers % 4) 0 h in rw even

pub room_many : (count room : ℕ) → most_records < count → room_refused count room ≡ true
unfolding room_refused
room_many count room l = let many = lt-ltb most_records count l in rw many

pub room_small : (count room : ℕ) → count ≤ most_records → room < file_length count → room_refused count room ≡ true
unfolding room_refused
room_small count room l h =
    let few = le-ltb most_records count l in
    let small = lt-ltb room (file_length count) h in
    rw (few, small)

pub room_enough : (count room : ℕ) → count ≤ most_records → file_length count ≤ room → room_refused count room ≡ false
unfolding room_refused
room_enough count room l h =
    let few = le-ltb most_records count l in
    let enough = le-ltb room (file_length count) h in
    rw (few, enough)

pub number_count : (numbers : List ℤ) → length (number_stars numbers) ≡ count_from numbers
unfolding number_stars
number_count numbers =
    ap length (stars_from_each (count_from numbers) numbers) ∙ each_length star_from 4 (count_from numbers) numbers
