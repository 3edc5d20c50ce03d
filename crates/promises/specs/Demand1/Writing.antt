-- Demand 1 of a list written into lent room, 5, 11: of entries by `entries_write::write_list`, of a row of numbers by
-- `list_from_numbers::list_write`.
use Rattle.std.specs.Prelude.{◌≡◌, refl, ◌↔◌, List, [], ◌∷◌, ◌++◌, ℕ, length, drop, ℤ, pos, Ok, Err}
use Rattle.std.proofs.Common.{ap, ◌∙◌}
use Rattle.rules.specs.declared.Entry.{Entry}
use Rattle.rules.specs.declared.Refusal.{Refusal}
use Rattle.rules.specs.Checks.{first}
use Rattle.rules.specs.Refusals.{given, refused}
use Rattle.rules.specs.Answers.{listed_answer}
use Rattle.rules.specs.ListFile.{file_length}
use Rattle.rules.specs.ListReading.{leaving}
use Rattle.rules.specs.ListWriting.{stars_of, file_of, written_of, list_written, room_after_write}
use Rattle.rules.specs.ListWriting.{count_from, number_stars, numbers_written, room_after_numbers}
use Rattle.laws.specs.Checks.{FirstGiven}
use Rattle.promises.specs.Demand1.Checks.{write_checks, row_checks}
use Rattle.promises.specs.Demand1.InOrder.{first_map, first_kept, refused_exactly}

-- ---- entries written

pub write_checked : (entries : List Entry) (room : List ℕ)
    → list_written entries room
    ≡ first (write_checks entries room) Err (Ok (file_length (length entries)))
unfolding list_written written_of first
write_checked entries room = refl

pub write_refused_lem : (entries : List Entry) (room : List ℕ) (r : Refusal)
    → (list_written entries room ≡ Err r) ↔ FirstGiven (write_checks entries room) r
unfolding listed_answer given refused
write_refused_lem entries room r = rw (write_checked entries room)
    (refused_exactly (λ a. pos (listed_answer a).number) Err _ (λ _. refl) refl (write_checks entries room) r)

pub write_answer : (entries : List Entry) (room : List ℕ)
    → listed_answer (list_written entries room)
    ≡ first (write_checks entries room) (λ r. refused r 1) (given (pos (file_length (length entries)) ∷ []))
unfolding listed_answer
write_answer entries room = ap listed_answer (write_checked entries room)
    ∙ first_map listed_answer (write_checks entries room) Err _

-- the file at the start of the room, and what was past it
abbrev pub file_and_rest : List Entry → List ℕ → List ℕ
file_and_rest entries room = file_of (stars_of entries) ++ drop (file_length (length entries)) room

pub write_content : (entries : List Entry) (room : List ℕ)
    → room_after_write entries room ≡ first (write_checks entries room) (λ _. room) (file_and_rest entries room)
unfolding room_after_write leaving
write_content entries room =
    ap (λ l. leaving l (file_and_rest entries room) room) (write_checked entries room)
    ∙ first_map (λ l. leaving l (file_and_rest entries room) room)
    (write_checks entries room) Err (Ok _)

pub write_kept : (entries : List Entry) (room : List ℕ) (r : Refusal)
    → FirstGiven (write_checks entries room) r → room_after_write entries room ≡ room
write_kept entries room r f = write_content entries room ∙ first_kept (write_checks entries room) room _ r f

-- ---- a row of numbers written

pub row_checked : (numbers : List ℤ) (room : List ℕ)
    → numbers_written numbers room
    ≡ first (row_checks numbers room) Err (Ok (file_length (count_from numbers)))
unfolding numbers_written written_of first
row_checked numbers room = refl

pub row_refused_lem : (numbers : List ℤ) (room : List ℕ) (r : Refusal)
    → (numbers_written numbers room ≡ Err r) ↔ FirstGiven (row_checks numbers room) r
unfolding listed_answer given refused
row_refused_lem numbers room r = rw (row_checked numbers room)
    (refused_exactly (λ a. pos (listed_answer a).number) Err _ (λ _. refl) refl (row_checks numbers room) r)

pub row_answer : (numbers : List ℤ) (room : List ℕ)
    → listed_answer (numbers_written numbers room)
    ≡ first (row_checks numbers room) (λ r. refused r 1) (given (pos (file_length (count_from numbers)) ∷ []))
unfolding listed_answer
row_answer numbers room = ap listed_answer (row_checked numbers room)
    ∙ first_map listed_answer (row_checks numbers room) Err _

abbrev pub row_file_and_rest : List ℤ → List ℕ → List ℕ
row_file_and_rest numbers room = file_of (number_stars numbers) ++ drop (file_length (count_from numbers)) room

pub row_content : (numbers : List ℤ) (room : List ℕ)
    → room_after_numbers numbers room ≡ first (row_checks numbers room) (λ _. room) (row_file_and_rest numbers room)
unfolding room_after_numbers leaving
row_content numbers room =
    ap (λ l. leaving l (row_file_and_rest numbers room) room) (row_checked numbers room)
    ∙ first_map (λ l. leaving l (row_file_and_rest numbers room) room)
    (row_checks numbers room) Err (Ok _)

pub row_kept : (numbers : List ℤ) (room : List ℕ) (r : Refusal)
    → FirstGiven (row_checks numbers room) r → room_after_numbers numbers room ≡ room
row_kept numbers room r f = row_content numbers room ∙ first_kept (row_checks numbers room) room _ r f
