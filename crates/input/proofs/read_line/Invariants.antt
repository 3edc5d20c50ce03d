-- The loop of `input::read_line`: none of the bytes passed is an LF, they are what the input has given, and the rest of
-- the room is as it was.
use Rattle.std.proofs.Common.{take}
use Rattle.std.specs.Io.KnownBytes.{Consumes}
use Rattle.input.specs.Lines.{Passed}
use Rattle.input.proofs.read_line.Given as goal

abbrev pub invariant-loop-at : goal.invariant-loop-at
invariant-loop-at g l = record {
  passed : Passed l.at l.fn.room l.room;
  bytes : Consumes (g.I.Read.remaining l.fn.input) (g.I.Read.remaining l.input) (take l.at l.room);
}
