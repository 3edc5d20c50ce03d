-- `line_times::printing::printed` meets its contract.
use Rattle.std.proofs.Common.{sym, ◌∙◌}
use Rattle.rules.specs.Times.{printed}
use Rattle.laws.specs.Times.{refused_line_is}
use Rattle.line_times.proofs.printing.printed.Goals as goal

pub returns-in-Some : goal.returns-in-Some
unfolding printed
returns-in-Some c = rw c.in-Some.is c.answer_to.ensures

pub returns-in-None : goal.returns-in-None
unfolding printed
returns-in-None c = rw c.in-None.is (c.refused.ensures ∙ sym (refused_line_is 0))
