-- Demand 2, round trips: the list file read and written back, over entries and star by star as C does; day number and
-- date; the pair of the opposite angle. Here of the rules; of the functions, by what their contracts tell of calls one
-- after the other, in `Functions` and `FunctionsForC`.
use Rattle.std.specs.Prelude.{◌≡◌, ℕ, ◌+◌, ◌*◌, ◌/◌, ◌<◌, ◌≤◌, length, take, drop, get_or, ℤ, pos, neg_ℤ, Ok}
use Rattle.std.proofs.Common.{sym}
use mathlib.Core.List.{List, [], ◌∷◌, ◌++◌, map, flat_map}
use Rattle.rules.specs.declared.Date.{Date}
use Rattle.rules.specs.declared.Entry.{Entry}
use Rattle.rules.specs.Refusals.{given}
use Rattle.rules.specs.Answers.{listed_star_answer}
use Rattle.rules.specs.Calendar.{day_of, date_of}
use Rattle.rules.specs.Circle.{pair}
use Rattle.rules.specs.Years.{up_from}
use Rattle.rules.specs.ListFile.{count_in}
use Rattle.rules.specs.ListReading.{list_count, list_read, fresh_entry, leaving, entries_after_read, list_star}
use Rattle.rules.specs.ListWriting.{stars_of, list_written, room_after_write, numbers_written, room_after_numbers}
use Rattle.laws.specs.Bytes.{Bytes}
use Rattle.laws.specs.ListFile.{read_accepted}
use Rattle.laws.specs.RoundTrip as round_trip
use Rattle.laws.specs.NumbersRoundTrip as numbers_round_trip
use Rattle.laws.specs.DayAndDate as day_and_date
use Rattle.laws.specs.Angles as angles
pub mod Functions
pub mod FunctionsForC

-- ---- the list file over entries

-- "Read and written back, it is byte-equal; bytes past it in the writer's room stay"
pub read_then_written : (file : List ℕ) → Bytes file → (entries : List Entry) (count : ℕ)
    → list_read file entries ≡ Ok count → (room : List ℕ) → length file ≤ length room
    → (list_written (take count (entries_after_read file entries)) room ≡ Ok (length file))
    × (room_after_write (take count (entries_after_read file entries)) room ≡ file ++ drop (length file) room)
read_then_written file byte entries count e room l = round_trip.read_then_written file byte entries count e room l

-- what was written is read as fresh entries of the same stars, as many as were given; the entries past them stay
pub written_then_read : (entries : List Entry) (room : List ℕ) (size : ℕ) → list_written entries room ≡ Ok size
    → (others : List Entry) → length entries ≤ length others
    → (list_read (take size (room_after_write entries room)) others ≡ Ok (length entries))
    × (entries_after_read (take size (room_after_write entries room)) others
    ≡ map fresh_entry (stars_of entries) ++ drop (length entries) others)
unfolding entries_after_read leaving
written_then_read entries room size e others l =
    let file = take size (room_after_write entries room) in
    let back = round_trip.written_then_read entries room size e others l in
    let count : count_in file ≡ length entries =
    sym (read_accepted file others (length entries) back.0).0.count_is in
    (back.0, rw back.0 (λ i. map fresh_entry (back.1 i) ++ drop (count i) others))

-- ---- the list file star by star

-- the numbers of the stars of a file by their indexes, from 0 to below the count, one behind the other
abbrev pub numbers_in : List ℕ → ℕ → List ℤ
numbers_in file count = flat_map (λ i. (listed_star_answer (list_star file i)).values) (up_from 0 count)

pub stars_then_written : (file : List ℕ) → Bytes file → (count : ℕ) → list_count file ≡ Ok count
    → (room : List ℕ) → length file ≤ length room
    → (numbers_written (numbers_in file count) room ≡ Ok (length file))
    × (room_after_numbers (numbers_in file count) room ≡ file ++ drop (length file) room)
stars_then_written file byte count e room l = numbers_round_trip.stars_then_written file byte count e room l

-- what is read of a file that was written of a row of numbers
pub record ReadBack (numbers : List ℤ) (file : List ℕ) : Type 0 where
  -- a star for each four of them
  pub count : list_count file ≡ Ok (length numbers / 4)
  -- each with its four
  pub star : (i : ℕ) → i < length numbers / 4
      → listed_star_answer (list_star file i)
      ≡ given (get_or numbers (4 * i) (pos 0) ∷ get_or numbers (4 * i + 1) (pos 0)
      ∷ get_or numbers (4 * i + 2) (pos 0) ∷ get_or numbers (4 * i + 3) (pos 0) ∷ [])
  -- and none is left over
  pub row : numbers_in file (length numbers / 4) ≡ numbers

pub written_then_stars : (numbers : List ℤ) (room : List ℕ) (size : ℕ) → numbers_written numbers room ≡ Ok size
    → ReadBack numbers (take size (room_after_numbers numbers room))
written_then_stars numbers room size e =
    let back = numbers_round_trip.written_then_stars numbers room size e in
    record { count = back.count; star = back.star; row = back.row }

-- ---- day number and date

-- of every date that is accepted, and of every day number that is
pub day_then_date : (d : Date) (n : ℤ) → day_of d ≡ Ok n → date_of n ≡ Ok d
day_then_date d n e = day_and_date.date_of_day_of d n e

pub date_then_day : (n : ℤ) (d : Date) → date_of n ≡ Ok d → day_of d ≡ Ok n
date_then_day n d e = day_and_date.day_of_date_of n d e

-- ---- the opposite angle

-- "So the opposite angle gives exactly (c, −s)"
pub opposite_angle : (a : ℤ) → pair (neg_ℤ a) ≡ record { cosine = (pair a).cosine; sine = neg_ℤ (pair a).sine }
opposite_angle a = angles.pair_opposite a
