-- The loop of `line_places::printing::put_entries`: after the header stand the lines of the entries passed.
use Rattle.std.proofs.Common.{◌+◌, ◌*◌, ◌≤◌, length}
use Rattle.line_places.specs.Listed.{listed_line}
use Rattle.line_places.specs.Lines.{LinesPut}
use Rattle.line_places.proofs.printing.put_entries.Given as goal

abbrev pub invariant-loop-index : goal.invariant-loop-index
invariant-loop-index l = record {
  lines : LinesPut (listed_line l.command.people l.command.air l.entries) l.index l.initial.out.items l.out.items;
  short : length l.out.items ≤ 29 + 147 * l.index;
}
