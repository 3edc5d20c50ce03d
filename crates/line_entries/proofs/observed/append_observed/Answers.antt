-- `line_entries::observed::append_observed` meets its contract.
use Rattle.words.specs.Fits.{held64}
use Rattle.line_entries.specs.Observed.{observed_column}
use Rattle.line_entries.proofs.observed.append_observed.Goals as goal

pub returns-then-people-clause-items : goal.returns-then-people-clause-items
unfolding observed_column
returns-then-people-clause-items g c =
    let h = c.observed_of-h in
    rw c.if-people.true
    (rw (held64 h.result h.type_inv, h.ensures) at c.put_height.ensures.items)

pub returns-else-people-clause-items : goal.returns-else-people-clause-items
unfolding observed_column
returns-else-people-clause-items g c =
    let h = c.observed_of-h in
    rw c.if-people.false
    (rw (held64 h.result h.type_inv, h.ensures) at c.put_height-else-people.ensures.items)
