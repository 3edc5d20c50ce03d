-- The round trips of the list file as C makes them: what the contracts of `turbelicus_list_count`,
-- `turbelicus_list_star` and `turbelicus_list_write` tell together of calls one after the other.
use Rattle.std.specs.Prelude.{◌≡◌, ℕ, length, drop, ℤ, pos, nat_abs, Result, Ok, Err}
use Rattle.std.proofs.Math.Path.{refl, ap}
use Rattle.std.proofs.Common.{sym, ◌∙◌, arith}
use mathlib.Core.List.{List, [], ◌∷◌, ◌++◌, map, flat_map}
use seplogic.Ra.Ura.{Ura}
use base.Logic.{SProp, ent, id⊢}
use prog.Memory.{Memory}
use prog.Routine.{Routine}
use types.Logic.{Logic}
use contract.Monad.{Fun, conj, fact}
use Rattle.rules.specs.Refusals.{given, refused}
use Rattle.rules.specs.Answers.{listed_answer, listed_star_answer}
use Rattle.rules.specs.ListReading.{list_count, list_star}
use Rattle.laws.specs.Bytes.{Bytes}
use Rattle.laws.specs.NumbersRoundTrip as numbers_round_trip
use Rattle.laws.specs.RefusalNumbers.{number_pos}
use Rattle.answers.specs.declared.lists.TurbelicusCounted.{TurbelicusCounted}
use Rattle.answers.specs.Answers.{counted_out, starred_out, written_out}
use Rattle.promises.specs.OfContracts.{all_together}
use Rattle.promises.specs.Calls.{all_tell, Each}
use Rattle.promises.specs.RoundTrips as rules
use Rattle.promises.specs.RoundTrips.FunctionsForC.{numbers_of}
use Rattle.promises.specs.RoundTrips.FunctionsForC as stated
use Rattle.rules.specs.declared.Refusal.{Refusal}
use Rattle.rules.specs.declared.Star.{Star}

numbers_out : (s : Result Star Refusal) → numbers_of (starred_out (listed_star_answer s)) ≡ (listed_star_answer s).values
unfolding starred_out listed_star_answer given refused
numbers_out (Ok s) = refl
numbers_out (Err r) = refl

-- a struct without a refusal is that of a count, or of a length
counted_is : (l : Result ℕ Refusal) (a : TurbelicusCounted) → a ≡ counted_out (listed_answer l) → a.refused ≡ pos 0
    → l ≡ Ok a.count
unfolding counted_out listed_answer given refused
counted_is (Ok n) a e z = sym (ap (λ s. Ok s.count) e)
counted_is (Err r) a e z = absurd (omega (arith, ap nat_abs (sym z ∙ ap (λ s. s.refused) e), number_pos r))

module _ {M : Type 1} {𝓤 : Ura M} (𝓛 : Logic 𝓤) (mem : Memory → SProp 𝓤) (run : Routine → Fun 𝓤) where
  abbrev Counting : Type 0
  Counting = stated.Counting 𝓛 mem run

  abbrev counting_told : Counting → SProp 𝓤
  counting_told = stated.counting_told 𝓛 mem run

  abbrev Asking : Type 0
  Asking = stated.Asking 𝓛 mem run

  abbrev all_asking_told : List Asking → SProp 𝓤
  all_asking_told = stated.all_asking_told 𝓛 mem run

  abbrev Writing : Type 0
  Writing = stated.Writing 𝓛 mem run

  abbrev writing_told : Writing → SProp 𝓤
  writing_told = stated.writing_told 𝓛 mem run

  abbrev file_asked : Asking → List ℕ
  file_asked = stated.file_asked 𝓛 mem run

  abbrev index_asked : Asking → ℕ
  index_asked = stated.index_asked 𝓛 mem run

  abbrev numbers_answered : Asking → List ℤ
  numbers_answered = stated.numbers_answered 𝓛 mem run

  abbrev ReadAndWritten : List ℕ → Counting → List Asking → Writing → Type 0
  ReadAndWritten = stated.ReadAndWritten 𝓛 mem run

  -- what the contract tells of stars of one file
  row_told : (file : List ℕ) (stars : List Asking) → Each (λ c. file_asked c ≡ file) stars
      → Each (λ (c : Asking). c.answer ≡ starred_out (listed_star_answer (list_star (file_asked c) (index_asked c)))) stars
      → flat_map numbers_answered stars
      ≡ flat_map (λ i. (listed_star_answer (list_star file i)).values) (map index_asked stars)
  unfolding flat_map
  row_told file [] of tells = refl
  row_told file (c ∷ stars) of tells =
      let one : numbers_answered c ≡ (listed_star_answer (list_star file (index_asked c))).values =
      ap numbers_of tells.0 ∙ numbers_out (list_star (file_asked c) (index_asked c))
      ∙ ap (λ f. (listed_star_answer (list_star f (index_asked c))).values) of.0 in
      (λ i. one i ++ row_told file stars of.1 tells.1 i)

  -- the file is written again, byte for byte, and the bytes past it stay
  pub file_again : (file : List ℕ) → Bytes file → (counts : Counting) (stars : List Asking) (writes : Writing)
      → ReadAndWritten file counts stars writes
      → ent 𝓤 (conj 𝓤 (counting_told counts) (conj 𝓤 (all_asking_told stars) (writing_told writes)))
      (fact 𝓤 ((writes.answer ≡ record { refused = pos 0; length = length file })
      × (writes.exit.1.0.now ≡ file ++ drop (length file) writes.passed.1.0.now)))
  unfolding written_out listed_answer given
  file_again file byte counts stars writes asked =
      all_together 𝓤 (id⊢ 𝓤 _) (all_tell 𝓤 _ _ (λ κs passed g a x. id⊢ 𝓤 _) stars) (id⊢ 𝓤 _) (λ p q r.
      let room = writes.passed.1.0.now in
      let n = counts.answer.count in
      let count : list_count file ≡ Ok n =
      ap list_count (sym asked.counted)
      ∙ counted_is (list_count counts.passed.0.now) counts.answer p asked.accepted in
      let row : writes.passed.0.now ≡ rules.numbers_in file n =
      asked.handed ∙ row_told file stars asked.of_file q
      ∙ ap (flat_map (λ i. (listed_star_answer (list_star file i)).values)) asked.by_index in
      let back = numbers_round_trip.stars_then_written file byte n count room asked.room in
      (r.0 ∙ rw row (ap (λ l. written_out (listed_answer l)) back.0), r.1 ∙ rw row back.1))
