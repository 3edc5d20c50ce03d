-- `line_entries::append_entry` meets its contract.
use Rattle.std.proofs.Common.{◌∙◌, append_assoc}
use Rattle.words.specs.Fits.{held64}
use Rattle.words.specs.Holds.{nat}
use Rattle.line_entries.specs.EntryLine.{two, equatorial, horizontal, plain_angles, people_angles, entry_line}
use Rattle.line_entries.proofs.append_entry.Goals as goal

pub returns-then-people-clause-items : goal.returns-then-people-clause-items
unfolding entry_line people_angles equatorial horizontal
returns-then-people-clause-items g c =
    rw (
      c.put_spaced.ensures.items,
      c.append.ensures.items,
      (nat c.args.index {b = 64} c.requires.0 tt).value,
      held64 c.from.result c.from.type_inv ∙ c.from.ensures,
    ) at c.put_angles.ensures.items
    ∙ rw c.if-people.true (simp append_assoc)

pub returns-else-people-clause-items : goal.returns-else-people-clause-items
unfolding entry_line plain_angles two
returns-else-people-clause-items g c =
    rw (
      c.put_spaced.ensures.items,
      c.append.ensures.items,
      (nat c.args.index {b = 64} c.requires.0 tt).value,
      held64 c.from.result c.from.type_inv ∙ c.from.ensures,
    ) at c.put_angles-else-people.ensures.items
    ∙ rw c.if-people.false (simp append_assoc)
