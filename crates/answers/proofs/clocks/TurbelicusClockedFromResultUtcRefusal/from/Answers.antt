-- `answers::clocks::TurbelicusClocked::from` meets its contract.
use borrow.Author.Rules.{rules}
use Rattle.rules.specs.Refusals.{given, refused}
use Rattle.rules.specs.Answers.{clocked_answer}
use Rattle.answers.specs.Answers.{clocked_out}
use Rattle.answers.proofs.clocks.TurbelicusClockedFromResultUtcRefusal.from.Goals as goal

pub returns-in-Ok : goal.returns-in-Ok
unfolding clocked_out clocked_answer given
returns-in-Ok c = rw c.in-Ok.is (search rules)

pub returns-in-Err : goal.returns-in-Err
unfolding clocked_out clocked_answer refused
returns-in-Err c = rw c.in-Err.is (search rules)
