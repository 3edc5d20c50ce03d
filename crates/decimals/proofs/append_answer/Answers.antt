-- `decimals::append_answer` meets its contract.
use Rattle.std.proofs.Common.{◌∙◌, append_assoc, to_z-of_z}
use Rattle.laws.specs.Times.{three_numbers_are}
use Rattle.decimals.proofs.append_answer.Goals as goal

pub returns-clause-items : goal.returns-clause-items
returns-clause-items g c =
    rw (
      to_z-of_z c.ranges.tt,
      c.push-2.ensures.items,
      c.append-2.ensures.items,
      to_z-of_z c.ranges.ut,
      c.push.ensures.items,
      c.append.ensures.items,
      to_z-of_z c.ranges.day,
    ) at c.append-3.ensures.items
    ∙ rw (three_numbers_are c.args.day c.args.ut c.args.tt) (simp append_assoc)
