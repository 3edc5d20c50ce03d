-- The program `times` to the byte, of the functions that it calls: ProgramLines.antt, of this program.
use Rattle.std.specs.Prelude.{◌≡◌, ℕ}
use mathlib.Core.List.{List, [], ◌∷◌, ◌++◌, map}
use seplogic.Ra.Ura.{Ura}
use base.Logic.{SProp, ent}
use prog.Memory.{Memory}
use prog.Routine.{Routine}
use types.Logic.{Logic}
use contract.Monad.{Fun, fact}
use Rattle.rules.specs.Times.{newline, times}
use Rattle.line_reads.specs.declared.Program.{Program}
use Rattle.line_reads.specs.Reads.{printed_by}
use Rattle.line_reads.specs.Inputs.{ToTheEnd, GoingOn}
use Rattle.promises.specs.ProgramLines as lines
use Rattle.promises.proofs.ProgramLines as lines_proved
use Rattle.promises.specs.ProgramTimes as stated

module _ {M : Type 1} {𝓤 : Ura M} (𝓛 : Logic 𝓤) (mem : Memory → SProp 𝓤) (run : Routine → Fun 𝓤) where
  abbrev BeginCall : Type 0
  BeginCall = stated.BeginCall 𝓛 mem run

  abbrev ReadCall : Type 0
  ReadCall = stated.ReadCall 𝓛 mem run

  abbrev read_in_all : List ReadCall → List ℕ
  read_in_all = stated.read_in_all 𝓛 mem run

  -- to the end of the input: all that is written is `times` of all that is read
  pub times_of_calls : (b : BeginCall) (cs : List ReadCall) → lines.CallsOf 𝓛 mem run Program.Times b cs
      → ToTheEnd (map (lines.read_by 𝓛 mem run) cs)
      → ent 𝓤 (lines.told_of_all 𝓛 mem run b cs)
      (fact 𝓤 (lines.written_in_all 𝓛 mem run b cs ≡ times (read_in_all cs)))
  unfolding printed_by
  times_of_calls b cs calls end = lines_proved.printed_of_calls 𝓛 mem run Program.Times b cs calls end

  -- and so it is whenever the last byte read ends a line, though the input goes on
  pub times_so_far_of_calls : (b : BeginCall) (cs : List ReadCall) (front : List ℕ)
      → lines.CallsOf 𝓛 mem run Program.Times b cs → GoingOn (map (lines.read_by 𝓛 mem run) cs)
      → read_in_all cs ≡ front ++ newline ∷ []
      → ent 𝓤 (lines.told_of_all 𝓛 mem run b cs)
      (fact 𝓤 (lines.written_in_all 𝓛 mem run b cs ≡ times (read_in_all cs)))
  unfolding printed_by
  times_so_far_of_calls b cs front calls goes ends =
      lines_proved.printed_so_far_of_calls 𝓛 mem run Program.Times b cs front calls goes ends
