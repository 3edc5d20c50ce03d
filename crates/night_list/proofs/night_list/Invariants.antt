-- The entries before the index are worked, and the others as they came.
use Rattle.std.proofs.Common.{◌≡◌, ◌++◌, map, take, drop}
use Rattle.rules.specs.NightList.{worked}
use Rattle.night_list.proofs.night_list.Given as goal

abbrev pub invariant-loop-entry : goal.invariant-loop-entry
invariant-loop-entry l =
    l.entries ≡ map (worked l.night) (take l.entry-index l.fn.entries) ++ drop l.entry-index l.fn.entries
