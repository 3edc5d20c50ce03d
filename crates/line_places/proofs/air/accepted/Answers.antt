-- `line_places::air::accepted` meets its contract.
use Rattle.std.proofs.Common.{sym, ◌∙◌}
use Rattle.line_places.proofs.air.accepted.Goals as goal

pub returns-then-is_accepted : goal.returns-then-is_accepted
returns-then-is_accepted c = rw (sym c.is_accepted.ensures ∙ c.if-is_accepted.true)

pub returns : goal.returns
returns c = rw (sym c.is_accepted.ensures ∙ c.if-is_accepted.false)
