-- Demand 1 of the list file: `list_file::list_count` 9, 10, 5; `list_file::list_star` and
-- `entries_read::read_list` then 11.
use Rattle.std.specs.Prelude.{◌≡◌, refl, ◌↔◌, Bool, true, false, not, cond, List, [], ◌∷◌, ◌++◌, map, ℕ, ltb, length, drop, ℤ, pos, Ok, Err}
use Rattle.std.proofs.Common.{ap, ◌∙◌}
use Rattle.rules.specs.declared.Star.{Star}
use Rattle.rules.specs.declared.Entry.{Entry}
use Rattle.rules.specs.declared.Refusal.{Refusal}
use Rattle.rules.specs.Checks.{first}
use Rattle.rules.specs.Refusals.{given, refused}
use Rattle.rules.specs.Answers.{listed_answer, listed_star_answer}
use Rattle.rules.specs.ListFile.{count_in, stars, file_length}
use Rattle.rules.specs.ListReading.{list_count, read_into, list_read, fresh_entry, leaving}
use Rattle.rules.specs.ListFile.{star_in}
use Rattle.rules.specs.ListReading.{entries_after_read, star_at, list_star}
use Rattle.laws.specs.Checks.{FirstGiven}
use Rattle.promises.specs.Demand1.Checks.{file_checks, read_checks, star_checks}
use Rattle.promises.specs.Demand1.InOrder.{first_map, first_kept, refused_exactly}

-- ---- the count of a file

pub count_checked : (file : List ℕ)
    → list_count file ≡ first (file_checks file) Err (Ok (count_in file))
unfolding list_count first
count_checked file = refl

pub count_refused_lem : (file : List ℕ) (r : Refusal)
    → (list_count file ≡ Err r) ↔ FirstGiven (file_checks file) r
unfolding listed_answer given refused
count_refused_lem file r = rw (count_checked file)
    (refused_exactly (λ a. pos (listed_answer a).number) Err _ (λ _. refl) refl (file_checks file) r)

pub count_answer : (file : List ℕ)
    → listed_answer (list_count file) ≡ first (file_checks file) (λ r. refused r 1) (given (pos (count_in file) ∷ []))
unfolding listed_answer
count_answer file = ap listed_answer (count_checked file) ∙ first_map listed_answer (file_checks file) Err _

-- ---- a star of a file

-- the record of an index
abbrev pub star_of_record : List ℕ → ℕ → Star
star_of_record file index = star_in (drop (file_length index) file)

pub star_checked : (file : List ℕ) (index : ℕ)
    → list_star file index ≡ first (star_checks file index) Err (Ok (star_of_record file index))
unfolding list_star star_at first
star_checked file index =
    ap (λ l. star_at l file index) (count_checked file)
    ∙ first_map (λ l. star_at l file index) (file_checks file) Err (Ok (count_in file))
    ∙ ap (first (file_checks file) Err) (the_other_way (ltb index (count_in file)))
  where
    the_other_way : (b : Bool)
        → cond b (Ok (star_of_record file index)) (Err Refusal.Room)
        ≡ cond (not b) (Err Refusal.Room) (Ok (star_of_record file index))
    the_other_way true = refl
    the_other_way false = refl

pub star_refused_lem : (file : List ℕ) (index : ℕ) (r : Refusal)
    → (list_star file index ≡ Err r) ↔ FirstGiven (star_checks file index) r
unfolding listed_star_answer given refused
star_refused_lem file index r = rw (star_checked file index)
    (refused_exactly (λ a. pos (listed_star_answer a).number) Err _ (λ _. refl) refl (star_checks file index) r)

-- right ascension, declination, their motions
abbrev pub four_numbers : Star → List ℤ
four_numbers s = s.ra ∷ s.declination ∷ s.ra_motion ∷ s.declination_motion ∷ []

pub star_answer : (file : List ℕ) (index : ℕ)
    → listed_star_answer (list_star file index)
    ≡ first (star_checks file index) (λ r. refused r 4) (given (four_numbers (star_of_record file index)))
unfolding listed_star_answer
star_answer file index = ap listed_star_answer (star_checked file index)
    ∙ first_map listed_star_answer (star_checks file index) Err _

-- ---- a file read into entries

pub read_checked : (file : List ℕ) (entries : List Entry)
    → list_read file entries ≡ first (read_checks file entries) Err (Ok (count_in file))
unfolding list_read read_into first
read_checked file entries =
    ap (λ l. read_into l (length entries)) (count_checked file)
    ∙ first_map (λ l. read_into l (length entries)) (file_checks file) Err (Ok (count_in file))

pub read_refused : (file : List ℕ) (entries : List Entry) (r : Refusal)
    → (list_read file entries ≡ Err r) ↔ FirstGiven (read_checks file entries) r
unfolding listed_answer given refused
read_refused file entries r = rw (read_checked file entries)
    (refused_exactly (λ a. pos (listed_answer a).number) Err _ (λ _. refl) refl (read_checks file entries) r)

pub read_answer : (file : List ℕ) (entries : List Entry)
    → listed_answer (list_read file entries)
    ≡ first (read_checks file entries) (λ r. refused r 1) (given (pos (count_in file) ∷ []))
unfolding listed_answer
read_answer file entries = ap listed_answer (read_checked file entries)
    ∙ first_map listed_answer (read_checks file entries) Err _

pub read_content : (file : List ℕ) (entries : List Entry)
    → entries_after_read file entries
    ≡ first (read_checks file entries) (λ _. entries) (map fresh_entry (stars file) ++ drop (count_in file) entries)
unfolding entries_after_read leaving
read_content file entries =
    ap (λ l. leaving l (map fresh_entry (stars file) ++ drop (count_in file) entries) entries) (read_checked file entries)
    ∙ first_map (λ l. leaving l (map fresh_entry (stars file) ++ drop (count_in file) entries) entries)
    (read_checks file entries) Err (Ok (count_in file))

pub read_kept : (file : List ℕ) (entries : List Entry) (r : Refusal)
    → FirstGiven (read_checks file entries) r → entries_after_read file entries ≡ entries
read_kept file entries r f = read_content file entries ∙ first_kept (read_checks file entries) entries _ r f
