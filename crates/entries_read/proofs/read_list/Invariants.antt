-- What is read stands first, and after it the entries as they came.
use Rattle.std.proofs.Common.{◌≡◌, ◌++◌, take, drop}
use Rattle.entries_read.proofs.Reading.{read_entries}
use Rattle.entries_read.proofs.read_list.Given as goal

abbrev pub invariant-loop-i : goal.invariant-loop-i
invariant-loop-i l = l.entries ≡ read_entries (take l.i l.records) ++ drop l.i l.fn.entries
