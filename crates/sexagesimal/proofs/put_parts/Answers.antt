-- `sexagesimal::put_parts` meets its contract.
use Rattle.std.proofs.Common.{◌∙◌, append_assoc, to_z-of_z}
use Rattle.sexagesimal.specs.Sexagesimal.{marked, sexagesimal}
use Rattle.sexagesimal.proofs.put_parts.Goals as goal

pub returns-clause-items : goal.returns-clause-items
unfolding sexagesimal marked
returns-clause-items g c =
    rw (c.put_clock.ensures.items, to_z-of_z c.ranges.seconds, to_z-of_z c.ranges.n) at c.put_marked.ensures.items
    ∙ simp append_assoc
