-- The program `dates` to the byte, of the functions that it calls: ProgramLines.antt, of this program.
use Rattle.std.specs.Prelude.{ℕ}
use mathlib.Core.List.{List, map, flatten}
use seplogic.Ra.Ura.{Ura}
use base.Logic.{SProp}
use prog.Memory.{Memory}
use prog.Routine.{Routine}
use types.Logic.{Logic}
use contract.Monad.{Fun}
use Rattle.promises.specs.ProgramLines as lines

module _ {M : Type 1} {𝓤 : Ura M} (𝓛 : Logic 𝓤) (mem : Memory → SProp 𝓤) (run : Routine → Fun 𝓤) where
  abbrev pub BeginCall : Type 0
  BeginCall = lines.BeginCall 𝓛 mem run

  abbrev pub ReadCall : Type 0
  ReadCall = lines.ReadCall 𝓛 mem run

  -- all that is read
  abbrev pub read_in_all : List ReadCall → List ℕ
  read_in_all cs = flatten (map (lines.read_by 𝓛 mem run) cs)
