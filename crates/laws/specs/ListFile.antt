-- What a list file and its reader answer, exactly when, in the order 9, 10, 5, 11; and that every refusal leaves lent
-- memory as it was.
use Rattle.std.specs.Prelude.{◌≡◌, refl, Bool, true, false, cond, List, ℕ, ◌<◌, ◌≤◌, length, ltb, ℤ, Result, Ok, Err}
use Rattle.std.proofs.Common.{sym, ◌∙◌, ap, arith, lt-ltb, le-ltb, ltb-false}
use Rattle.rules.specs.declared.Entry.{Entry}
use Rattle.rules.specs.declared.Refusal.{Refusal}
use Rattle.rules.specs.ListFile.{count_in, file_length, stars, any_refused}
use Rattle.rules.specs.ListReading.{mark_refused, count_refused, list_count}
use Rattle.rules.specs.ListReading.{read_into, list_read, leaving, entries_after_read}
use Rattle.rules.specs.ListWriting.{list_written, room_after_write}
use Rattle.rules.specs.ListWriting.{numbers_written, room_after_numbers}
use Rattle.laws.specs.FileTests.{counted}

-- ---- the answers, exactly when: 9, 10, 5, then 11

pub record FileAccepted (file : List ℕ) (count : ℕ) : Type 0 where
  pub not_9 : mark_refused file ≡ false
  pub not_10 : count_refused file ≡ false
  pub not_5 : any_refused (stars file) ≡ false
  pub count_is : count ≡ count_in file

abbrev chain : Bool → Bool → Bool → ℕ → Result ℕ Refusal
chain a b c n =
    cond a (Err Refusal.Mark)
    (cond b (Err Refusal.Count) (cond c (Err Refusal.Star) (Ok n)))

count_chain : (a b c : Bool) (n count : ℕ) → chain a b c n ≡ Ok count
    → (a ≡ false) × ((b ≡ false) × ((c ≡ false) × (count ≡ n)))
count_chain true b c n count e = let z : ◌≡◌ {A = ℕ} 0 1 = cc in absurd (omega arith)
count_chain false true c n count e = let z : ◌≡◌ {A = ℕ} 0 1 = cc in absurd (omega arith)
count_chain false false true n count e = let z : ◌≡◌ {A = ℕ} 0 1 = cc in absurd (omega arith)
count_chain false false false n count e = (refl, (refl, (refl, cc)))

pub file_accepted : (file : List ℕ) (count : ℕ) → list_count file ≡ Ok count → FileAccepted file count
unfolding list_count
file_accepted file count e =
    let k = count_chain (mark_refused file) (count_refused file) (any_refused (stars file)) (count_in file) count e in
    record { not_9 = k.0; not_10 = k.1.0; not_5 = k.1.1.0; count_is = k.1.1.1 }

-- and is as long as its count says
pub accepted_size : (file : List ℕ) (count : ℕ) → list_count file ≡ Ok count → length file ≡ file_length count
accepted_size file count e =
    let ok = file_accepted file count e in
    (counted file ok.not_10).size ∙ ap file_length (sym ok.count_is)

pub accepted_few : (file : List ℕ) (count : ℕ) → list_count file ≡ Ok count → count ≤ 64
accepted_few file count e =
    let ok = file_accepted file count e in
    omega (arith, (counted file ok.not_10).few, ok.count_is)

pub file_refused_9 : (file : List ℕ) → mark_refused file ≡ true → list_count file ≡ Err Refusal.Mark
unfolding list_count
file_refused_9 file a = rw a

pub file_refused_10 : (file : List ℕ) → mark_refused file ≡ false → count_refused file ≡ true
    → list_count file ≡ Err Refusal.Count
unfolding list_count
file_refused_10 file a b = rw (a, b)

pub file_refused_5 : (file : List ℕ) → mark_refused file ≡ false → count_refused file ≡ false
    → any_refused (stars file) ≡ true
    → list_count file ≡ Err Refusal.Star
unfolding list_count
file_refused_5 file a b c = rw (a, b, c)

pub file_counted : (file : List ℕ) → mark_refused file ≡ false → count_refused file ≡ false
    → any_refused (stars file) ≡ false
    → list_count file ≡ Ok (count_in file)
unfolding list_count
file_counted file a b c = rw (a, b, c)

-- a file that is read: what the file says of itself, and there is room
room_cond : (t : Bool) (n count : ℕ) → cond t (Err Refusal.Room) (Ok n) ≡ Ok count
    → (t ≡ false) × (n ≡ count)
room_cond true n count e = let z : ◌≡◌ {A = ℕ} 0 1 = cc in absurd (omega arith)
room_cond false n count e = (refl, cc)

read_case : (answer : Result ℕ Refusal) (room count : ℕ) → read_into answer room ≡ Ok count
    → (answer ≡ Ok count) × (count ≤ room)
unfolding read_into
read_case (Err r) room count e = let z : ◌≡◌ {A = ℕ} 0 1 = cc in absurd (omega arith)
read_case (Ok n) room count e =
    let k = room_cond (ltb room n) n count e in
    (ap Ok k.1, omega (arith, ltb-false room n k.0, k.1))

pub read_accepted : (file : List ℕ) (entries : List Entry) (count : ℕ) → list_read file entries ≡ Ok count
    → FileAccepted file count × (count ≤ length entries)
unfolding list_read
read_accepted file entries count e =
    let k = read_case (list_count file) (length entries) count e in
    (file_accepted file count k.0, k.1)

-- what the file refuses, its reader refuses
pub read_refused : (file : List ℕ) (entries : List Entry) (r : Refusal) → list_count file ≡ Err r
    → list_read file entries ≡ Err r
unfolding list_read read_into
read_refused file entries r e = rw e

pub read_refused_11 : (file : List ℕ) (entries : List Entry) (count : ℕ) → list_count file ≡ Ok count
    → length entries < count → list_read file entries ≡ Err Refusal.Room
unfolding list_read read_into
read_refused_11 file entries count e l = rw (e, lt-ltb (length entries) count l)

pub read_counted : (file : List ℕ) (entries : List Entry) (count : ℕ) → list_count file ≡ Ok count
    → count ≤ length entries → list_read file entries ≡ Ok count
unfolding list_read read_into
read_counted file entries count e l = rw (e, le-ltb (length entries) count l)

-- ---- a refusal leaves lent memory as it was

pub read_kept : (file : List ℕ) (entries : List Entry) (r : Refusal) → list_read file entries ≡ Err r
    → entries_after_read file entries ≡ entries
unfolding entries_after_read leaving
read_kept file entries r e = rw e

pub write_kept : (entries : List Entry) (room : List ℕ) (r : Refusal) → list_written entries room ≡ Err r
    → room_after_write entries room ≡ room
unfolding room_after_write leaving
write_kept entries room r e = rw e

pub numbers_kept : (numbers : List ℤ) (room : List ℕ) (r : Refusal) → numbers_written numbers room ≡ Err r
    → room_after_numbers numbers room ≡ room
unfolding room_after_numbers leaving
numbers_kept numbers room r e = rw e
