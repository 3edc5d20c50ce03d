-- The programs `times` and `dates` to the byte, of the functions themselves. Each begins by `line_reads::begin_text`, hands
-- each read of its input to `line_reads::answer_text` with the start that the call before it answered, and writes what
-- stands in the text after each call. What the contracts tell of these calls entails that all that is written is what the
-- program prints for all that is read, wherever the reads are cut, and that no answer waits for another line.
use Rattle.std.specs.Prelude.{◌≡◌, ℕ}
use Rattle.std.proofs.Math.Path.{refl, ap}
use Rattle.std.proofs.Common.{◌∙◌}
use mathlib.Core.List.{List, [], ◌∷◌, ◌++◌, map, flatten}
use seplogic.Ra.Ura.{Ura}
use base.Logic.{SProp, ent}
use prog.Memory.{Memory}
use prog.Routine.{Routine}
use types.Logic.{Logic}
use contract.Monad.{Fun, fact}
use denote.Triple.Clauses.{Clauses}
use Rattle.rules.specs.Times.{newline}
use Rattle.line_reads.specs.declared.Program.{Program}
use Rattle.line_reads.specs.declared.starts.Start.{Start}
use Rattle.line_reads.specs.Reads.{header_line, printed_by, none, answers_of, start_of_next}
use Rattle.line_reads.specs.Inputs.{ToTheEnd, GoingOn, answers_of_all}
use Rattle.line_reads.proofs.Cuts.{printed_of_reads, printed_so_far}
use Rattle.promises.specs.OfContracts.{so_told, together}
use Rattle.promises.specs.Calls.{Each, all_tell}
use Rattle.line_reads.specs.contracts.answer_text as answer_text
use Rattle.promises.specs.ProgramLines as stated

module _ {M : Type 1} {𝓤 : Ura M} (𝓛 : Logic 𝓤) (mem : Memory → SProp 𝓤) (run : Routine → Fun 𝓤) where
  abbrev read_contract : Clauses 𝓤 answer_text.ended
  read_contract = stated.read_contract 𝓛 mem run

  abbrev BeginCall : Type 0
  BeginCall = stated.BeginCall 𝓛 mem run

  abbrev ReadCall : Type 0
  ReadCall = stated.ReadCall 𝓛 mem run

  abbrev read_by : ReadCall → List ℕ
  read_by = stated.read_by 𝓛 mem run

  abbrev written_by : ReadCall → List ℕ
  written_by = stated.written_by 𝓛 mem run

  abbrev written_first : BeginCall → List ℕ
  written_first = stated.written_first 𝓛 mem run

  abbrev written_in_all : BeginCall → List ReadCall → List ℕ
  written_in_all = stated.written_in_all 𝓛 mem run

  abbrev Chained : Program → Start → List ReadCall → Type 0
  Chained = stated.Chained 𝓛 mem run

  abbrev CallsOf : Program → BeginCall → List ReadCall → Type 0
  CallsOf = stated.CallsOf 𝓛 mem run

  abbrev told_of_all : BeginCall → List ReadCall → SProp 𝓤
  told_of_all = stated.told_of_all 𝓛 mem run

  -- the answers to what a call is passed
  abbrev answers_by : ReadCall → List ℕ
  answers_by c = answers_of c.passed.0 c.passed.1.0 (read_by c)

  -- they stand in the room, and the start is handed on
  abbrev Follows : ReadCall → Type 0
  Follows c = (c.answer ≡ start_of_next c.passed.1.0 (read_by c)) × (written_by c ≡ answers_by c)

  all_written : (p : Program) (s : Start) (cs : List ReadCall) → Chained p s cs → Each Follows cs
      → flatten (map written_by cs) ≡ answers_of_all p s (map read_by cs)
  unfolding flatten answers_of_all
  all_written p s [] chain fs = refl
  all_written p s (c ∷ cs) chain fs =
      let w : written_by c ≡ answers_of p s (read_by c) =
      fs.0.1 ∙ ap (λ p. answers_of p c.passed.1.0 (read_by c)) chain.0
      ∙ ap (λ s. answers_of p s (read_by c)) chain.1.0 in
      let n : c.answer ≡ start_of_next s (read_by c) =
      fs.0.0 ∙ ap (λ s. start_of_next s (read_by c)) chain.1.0 in
      let rest = all_written p c.answer cs chain.1.1 fs.1 in
      cc

  -- what is written in all, by what the contracts tell
  written_in_all_lem : (p : Program) (b : BeginCall) (cs : List ReadCall) → CallsOf p b cs
      → ent 𝓤 (told_of_all b cs) (fact 𝓤 (written_in_all b cs ≡ header_line p ++ answers_of_all p none (map read_by cs)))
  written_in_all_lem p b cs calls =
      together 𝓤 ((stated.begin_text_answers 𝓛 mem run) b.lifetimes b.passed b.ghost b.answer b.exit)
      (all_tell 𝓤 answer_text.ended read_contract (stated.answer_text_answers 𝓛 mem run) cs) (λ e fs.
      let w = e.1 ∙ ap header_line calls.0 in
      let n : b.answer ≡ none = e.0 in
      let ws = all_written p b.answer cs calls.1 fs in
      cc)

  -- to the end of the input: all that is written is what the program prints for all that is read
  pub printed_of_calls : (p : Program) (b : BeginCall) (cs : List ReadCall) → CallsOf p b cs
      → ToTheEnd (map read_by cs)
      → ent 𝓤 (told_of_all b cs) (fact 𝓤 (written_in_all b cs ≡ printed_by p (flatten (map read_by cs))))
  printed_of_calls p b cs calls end =
      so_told 𝓤 (written_in_all_lem p b cs calls) (λ w. w ∙ printed_of_reads p (map read_by cs) end)

  -- and so it is whenever the last byte read ends a line, though the input goes on
  pub printed_so_far_of_calls : (p : Program) (b : BeginCall) (cs : List ReadCall) (front : List ℕ) → CallsOf p b cs
      → GoingOn (map read_by cs) → flatten (map read_by cs) ≡ front ++ newline ∷ []
      → ent 𝓤 (told_of_all b cs) (fact 𝓤 (written_in_all b cs ≡ printed_by p (flatten (map read_by cs))))
  printed_so_far_of_calls p b cs front calls goes ends =
      so_told 𝓤 (written_in_all_lem p b cs calls) (λ w. w ∙ printed_so_far p (map read_by cs) front goes ends)
