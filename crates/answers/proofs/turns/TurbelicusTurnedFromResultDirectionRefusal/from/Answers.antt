-- `answers::turns::TurbelicusTurned::from` meets its contract.
use borrow.Author.Rules.{rules}
use Rattle.rules.specs.Refusals.{given, refused}
use Rattle.rules.specs.Answers.{turned_answer}
use Rattle.answers.specs.Answers.{turned_out}
use Rattle.answers.proofs.turns.TurbelicusTurnedFromResultDirectionRefusal.from.Goals as goal

pub returns-in-Ok : goal.returns-in-Ok
unfolding turned_out turned_answer given
returns-in-Ok c = rw c.in-Ok.is (search rules)

pub returns-in-Err : goal.returns-in-Err
unfolding turned_out turned_answer refused
returns-in-Err c = rw c.in-Err.is (search rules)
