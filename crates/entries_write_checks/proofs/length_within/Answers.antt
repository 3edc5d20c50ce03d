-- `entries_write_checks::length_within` meets its contract.
use Rattle.std.proofs.Common.{sym, ◌∙◌}
use Rattle.rules.specs.ListWriting.{written_of}
use Rattle.entries_write_checks.proofs.length_within.Goals as goal

pub returns-then-any_refused : goal.returns-then-any_refused
unfolding written_of
returns-then-any_refused c = rw (sym c.any_refused.ensures ∙ c.if-any_refused.true)

pub returns : goal.returns
unfolding written_of
returns c = rw (sym c.any_refused.ensures ∙ c.if-any_refused.false) c.file_length.ensures
