-- What a program may hand out, and what a turn leaves where it is to go on. Which bytes a read gives, no contract can
-- say. Definitions only.
use Rattle.std.specs.Prelude.{◌≡◌, List, ℕ, ◌<◌, length}
use Rattle.line_reads.specs.declared.Program.{Program}
use Rattle.line_reads.specs.declared.starts.Start.{Start}
use Rattle.line_reads.specs.Reads.{answers_of, start_of_next, header_line}

-- the header, or the answers to a read
pub data Handed (p : Program) : List ℕ → Type 0 where
  header : Handed p (header_line p)
  answers : (start : Start) (read : List ℕ) → Handed p (answers_of p start read)

-- some bytes were read; their answers stand in the room, and their start is kept for the next turn
pub record Turned (p : Program) (start next : Start) (room : List ℕ) : Type 0 where
  pub read : List ℕ
  pub some : 0 < length read
  pub kept : next ≡ start_of_next start read
  pub content : room ≡ answers_of p start read
