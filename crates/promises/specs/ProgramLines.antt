-- The programs `times` and `dates` to the byte, of the functions themselves. Each begins by `line_reads::begin_text`, hands
-- each read of its input to `line_reads::answer_text` with the start that the call before it answered, and writes what
-- stands in the text after each call. What the contracts tell of these calls entails that all that is written is what the
-- program prints for all that is read, wherever the reads are cut, and that no answer waits for another line.
use Rattle.std.specs.Prelude.{◌≡◌, ℕ, take}
use Rattle.std.proofs.Math.Path.{refl}
use mathlib.Core.List.{List, [], ◌∷◌, ◌++◌, map, flatten}
use seplogic.Ra.Ura.{Ura}
use base.Logic.{SProp}
use prog.Memory.{Memory}
use prog.Routine.{Routine}
use types.Logic.{Logic}
use contract.Monad.{Fun, conj}
use denote.Triple.Clauses.{Clauses}
use Rattle.line_reads.specs.declared.Program.{Program}
use Rattle.line_reads.specs.declared.starts.Start.{Start}
use Rattle.rules.specs.Times.{overlaid}
use Rattle.line_reads.specs.Reads.{none, header_line, answers_of, start_of_next, after_read, begun}
use Rattle.promises.specs.OfContracts.{AsksNothing, Tells, clauses_told}
use Rattle.promises.specs.Calls.{Call, told, all_told}
use Rattle.line_reads.specs.contracts.begin_text as begin_text
use Rattle.line_reads.specs.contracts.answer_text as answer_text
use Rattle.line_reads.specs.contracts.begin as begin
use Rattle.line_reads.specs.contracts.answer_read as answer_read

module _ {M : Type 1} {𝓤 : Ura M} (𝓛 : Logic 𝓤) (mem : Memory → SProp 𝓤) (run : Routine → Fun 𝓤) where
  abbrev pub begin_contract : Clauses 𝓤 begin_text.ended
  begin_contract = begin_text.clauses 𝓛 mem run

  abbrev pub read_contract : Clauses 𝓤 answer_text.ended
  read_contract = answer_text.clauses 𝓛 mem run

  -- ---- none asks anything, nor do those that put the same into lent memory

  pub begin_text_asks_nothing : AsksNothing 𝓤 begin_text.ended begin_contract
  begin_text_asks_nothing κs passed g = refl

  pub answer_text_asks_nothing : AsksNothing 𝓤 answer_text.ended read_contract
  answer_text_asks_nothing κs passed g = refl

  pub begin_asks_nothing : AsksNothing 𝓤 begin.ended (begin.clauses 𝓛 mem run)
  begin_asks_nothing κs passed g = refl

  pub answer_read_asks_nothing : AsksNothing 𝓤 answer_read.ended (answer_read.clauses 𝓛 mem run)
  answer_read_asks_nothing κs passed g = refl

  -- ---- what a call is given, and what it has the program write

  abbrev pub BeginCall : Type 0
  BeginCall = Call 𝓤 begin_text.ended begin_contract

  abbrev pub ReadCall : Type 0
  ReadCall = Call 𝓤 answer_text.ended read_contract

  -- the bytes of `read` that count
  abbrev pub read_by : ReadCall → List ℕ
  read_by c = take 1024 c.passed.1.1.0.now

  -- what stands in the room as it is left
  abbrev pub written_by : ReadCall → List ℕ
  written_by c = c.exit.1.1.1.0.now.items

  abbrev pub written_first : BeginCall → List ℕ
  written_first c = c.exit.1.0.now.items

  abbrev pub written_in_all : BeginCall → List ReadCall → List ℕ
  written_in_all b cs = written_first b ++ flatten (map written_by cs)

  -- each call is passed the program, and the start that the call before it answered
  abbrev pub Chained : Program → Start → List ReadCall → Type 0
  Chained p s [] = Unit {0}
  Chained p s (c ∷ cs) = (c.passed.0 ≡ p) × ((c.passed.1.0 ≡ s) × Chained p c.answer cs)

  -- the calls of a program, from the first on
  abbrev pub CallsOf : Program → BeginCall → List ReadCall → Type 0
  CallsOf p b cs = (b.passed.0 ≡ p) × Chained p b.answer cs

  -- what the contracts tell of them
  abbrev pub told_of_all : BeginCall → List ReadCall → SProp 𝓤
  told_of_all b cs = conj 𝓤 (told 𝓤 begin_text.ended begin_contract b) (all_told 𝓤 answer_text.ended read_contract cs)

  -- ---- what the contracts tell

  -- program, text
  pub begin_text_answers : Tells 𝓤 begin_text.ended begin_contract
      (λ κs passed a x. (a ≡ none) × (x.1.0.now.items ≡ header_line passed.0))
  begin_text_answers κs passed g a x = clauses_told 𝓤 (λ answer printed. (answer, printed))

  -- program, start, read, text
  pub answer_text_answers : Tells 𝓤 answer_text.ended read_contract
      (λ κs passed a x. let read = take 1024 passed.1.1.0.now in
      (a ≡ start_of_next passed.1.0 read)
      × (x.1.1.1.0.now.items ≡ answers_of passed.0 passed.1.0 read))
  answer_text_answers κs passed g a x = clauses_told 𝓤 (λ answer printed. (answer, printed))

  -- program, room
  pub begin_answers : Tells 𝓤 begin.ended (begin.clauses 𝓛 mem run)
      (λ κs passed a x. (a ≡ begun passed.0)
      × (x.1.0.now ≡ overlaid (header_line passed.0) passed.1.0.now))
  begin_answers κs passed g a x = clauses_told 𝓤 (λ answer room. (answer, room))

  -- program, start, input, count, room
  pub answer_read_answers : Tells 𝓤 answer_read.ended (answer_read.clauses 𝓛 mem run)
      (λ κs passed a x. let read = take passed.1.1.1.0 passed.1.1.0.now in
      (a ≡ after_read passed.0 passed.1.0 read)
      × (x.1.1.1.1.0.now ≡ overlaid (answers_of passed.0 passed.1.0 read) passed.1.1.1.1.0.now))
  answer_read_answers κs passed g a x = clauses_told 𝓤 (λ answer room. (answer, room))
  -- ---- what is written
