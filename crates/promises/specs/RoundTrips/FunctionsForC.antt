-- The round trips of the list file as C makes them: what the contracts of `turbelicus_list_count`,
-- `turbelicus_list_star` and `turbelicus_list_write` tell together of calls one after the other.
use Rattle.std.specs.Prelude.{◌≡◌, ℕ, ◌+◌, ◌*◌, ◌/◌, ◌<◌, ◌≤◌, length, get_or, ℤ, pos, nat_abs, Result, Ok, Err}
use Rattle.std.proofs.Math.Path.{ap}
use Rattle.std.proofs.Common.{sym, ◌∙◌, arith}
use mathlib.Core.List.{List, [], ◌∷◌, map, flat_map}
use Rattle.std.proofs.Math.ListN.{take}
use seplogic.Ra.Ura.{Ura}
use base.Logic.{SProp, ent, id⊢}
use prog.Memory.{Memory}
use prog.Routine.{Routine}
use types.Logic.{Logic}
use contract.Monad.{Fun, conj, fact}
use Rattle.rules.specs.Refusals.{given, refused}
use Rattle.rules.specs.Answers.{listed_answer}
use Rattle.rules.specs.Years.{up_from}
use Rattle.rules.specs.ListWriting.{numbers_written, room_after_numbers}
use Rattle.laws.specs.RefusalNumbers.{number_pos}
use Rattle.answers.specs.declared.lists.TurbelicusStarred.{TurbelicusStarred}
use Rattle.answers.specs.declared.lists.TurbelicusWritten.{TurbelicusWritten}
use Rattle.answers.specs.Answers.{counted_out, starred_out, written_out}
use Rattle.promises.specs.OfContracts.{all_together}
use Rattle.promises.specs.Calls.{Call, told, all_told, Each}
use Rattle.promises.specs.RoundTrips as rules
use Rattle.module.specs.contracts.lists.turbelicus_list_count as turbelicus_list_count
use Rattle.module.specs.contracts.lists.turbelicus_list_star as turbelicus_list_star
use Rattle.module.specs.contracts.lists.turbelicus_list_write as turbelicus_list_write
use Rattle.rules.specs.declared.Refusal.{Refusal}

-- ---- the structs

-- the four numbers of a star's struct, as they are handed on
abbrev pub numbers_of : TurbelicusStarred → List ℤ
numbers_of s = s.ra ∷ s.declination ∷ s.ra_motion ∷ s.declination_motion ∷ []

written_is : (l : Result ℕ Refusal) (a : TurbelicusWritten) → a ≡ written_out (listed_answer l) → a.refused ≡ pos 0
    → l ≡ Ok a.length
unfolding written_out listed_answer given refused
written_is (Ok n) a e z = sym (ap (λ s. Ok s.length) e)
written_is (Err r) a e z = absurd (omega (arith, ap nat_abs (sym z ∙ ap (λ s. s.refused) e), number_pos r))

module _ {M : Type 1} {𝓤 : Ura M} (𝓛 : Logic 𝓤) (mem : Memory → SProp 𝓤) (run : Routine → Fun 𝓤) where
  -- ---- calls

  abbrev pub Counting : Type 0
  Counting = Call 𝓤 turbelicus_list_count.ended (turbelicus_list_count.clauses 𝓛 mem run)

  abbrev pub counting_told : Counting → SProp 𝓤
  counting_told = told 𝓤 turbelicus_list_count.ended (turbelicus_list_count.clauses 𝓛 mem run)

  abbrev pub Asking : Type 0
  Asking = Call 𝓤 turbelicus_list_star.ended (turbelicus_list_star.clauses 𝓛 mem run)

  abbrev pub asking_told : Asking → SProp 𝓤
  asking_told = told 𝓤 turbelicus_list_star.ended (turbelicus_list_star.clauses 𝓛 mem run)

  abbrev pub all_asking_told : List Asking → SProp 𝓤
  all_asking_told = all_told 𝓤 turbelicus_list_star.ended (turbelicus_list_star.clauses 𝓛 mem run)

  abbrev pub Writing : Type 0
  Writing = Call 𝓤 turbelicus_list_write.ended (turbelicus_list_write.clauses 𝓛 mem run)

  abbrev pub writing_told : Writing → SProp 𝓤
  writing_told = told 𝓤 turbelicus_list_write.ended (turbelicus_list_write.clauses 𝓛 mem run)

  -- what is asked for a star, and the numbers of the answer
  abbrev pub file_asked : Asking → List ℕ
  file_asked c = c.passed.0.now

  abbrev pub index_asked : Asking → ℕ
  index_asked c = c.passed.1.0

  abbrev pub numbers_answered : Asking → List ℤ
  numbers_answered c = numbers_of c.answer

  -- ---- read star by star and written back

  -- the calls of a program that reads a file and writes it back: the count of the file, which is not refused; the star
  -- of each index from 0 to below it; the numbers of their structs, in this order, with room for the file
  pub record ReadAndWritten (file : List ℕ) (counts : Counting) (stars : List Asking) (writes : Writing) : Type 0 where
    pub counted : counts.passed.0.now ≡ file
    pub accepted : counts.answer.refused ≡ pos 0
    pub of_file : Each (λ c. file_asked c ≡ file) stars
    pub by_index : map index_asked stars ≡ up_from 0 counts.answer.count
    pub handed : writes.passed.0.now ≡ flat_map numbers_answered stars
    pub room : length file ≤ length writes.passed.1.0.now

  -- ---- written and read back star by star

  -- a row of numbers is written, which is not refused; of as many bytes of the room as are answered, the count is
  -- asked, and the star of an index that has its four numbers in the row
  pub record WrittenAndRead (numbers : List ℤ) (writes : Writing) (counts : Counting) (star : Asking) : Type 0 where
    pub handed : writes.passed.0.now ≡ numbers
    pub accepted : writes.answer.refused ≡ pos 0
    pub counted : counts.passed.0.now ≡ take writes.answer.length writes.exit.1.0.now
    pub of_file : file_asked star ≡ take writes.answer.length writes.exit.1.0.now
    pub below : index_asked star < length numbers / 4

  -- a star for each four numbers, and each with its four
  pub numbers_again : (numbers : List ℤ) (writes : Writing) (counts : Counting) (star : Asking)
      → WrittenAndRead numbers writes counts star
      → ent 𝓤 (conj 𝓤 (writing_told writes) (conj 𝓤 (counting_told counts) (asking_told star)))
      (fact 𝓤 ((counts.answer ≡ record { refused = pos 0; count = length numbers / 4 })
      × (star.answer ≡ record {
        refused = pos 0;
        ra = get_or numbers (4 * index_asked star) (pos 0);
        declination = get_or numbers (4 * index_asked star + 1) (pos 0);
        ra_motion = get_or numbers (4 * index_asked star + 2) (pos 0);
        declination_motion = get_or numbers (4 * index_asked star + 3) (pos 0);
      })))
  unfolding counted_out starred_out listed_answer given
  numbers_again numbers writes counts star asked =
      all_together 𝓤 (id⊢ 𝓤 _) (id⊢ 𝓤 _) (id⊢ 𝓤 _) (λ p q r.
      let room = writes.passed.1.0.now in
      let size = writes.answer.length in
      let written : numbers_written numbers room ≡ Ok size =
      ap (λ row. numbers_written row room) (sym asked.handed)
      ∙ written_is (numbers_written writes.passed.0.now room) writes.answer p.0 asked.accepted in
      let file : take size writes.exit.1.0.now ≡ take size (room_after_numbers numbers room) =
      ap (take size) (p.1 ∙ ap (λ row. room_after_numbers row room) asked.handed) in
      let back = rules.written_then_stars numbers room size written in (
        q ∙ rw (asked.counted ∙ file) (ap (λ l. counted_out (listed_answer l)) back.count),
        r ∙ rw (asked.of_file ∙ file) (ap starred_out (back.star (index_asked star) asked.below)),
      ))
