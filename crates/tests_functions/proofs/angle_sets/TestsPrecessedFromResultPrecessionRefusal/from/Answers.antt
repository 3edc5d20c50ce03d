-- `tests_functions::angle_sets::TestsPrecessed::from` meets its contract.
use borrow.Author.Rules.{rules}
use Rattle.rules.specs.Refusals.{given, refused}
use Rattle.rules.specs.Answers.{precessed_answer}
use Rattle.tests_functions.specs.Angles.{tests_precessed}
use Rattle.tests_functions.proofs.angle_sets.TestsPrecessedFromResultPrecessionRefusal.from.Goals as goal

pub returns-in-Ok : goal.returns-in-Ok
unfolding tests_precessed precessed_answer given
returns-in-Ok c = rw c.in-Ok.is (search rules)

pub returns-in-Err : goal.returns-in-Err
unfolding tests_precessed precessed_answer refused
returns-in-Err c = rw c.in-Err.is (search rules)
