-- `tests_functions::angle_sets::TestsNutated::from` meets its contract.
use borrow.Author.Rules.{rules}
use Rattle.rules.specs.Refusals.{given, refused}
use Rattle.rules.specs.Answers.{nutated_answer}
use Rattle.tests_functions.specs.Angles.{tests_nutated}
use Rattle.tests_functions.proofs.angle_sets.TestsNutatedFromResultNutationRefusal.from.Goals as goal

pub returns-in-Ok : goal.returns-in-Ok
unfolding tests_nutated nutated_answer given
returns-in-Ok c = rw c.in-Ok.is (search rules)

pub returns-in-Err : goal.returns-in-Err
unfolding tests_nutated nutated_answer refused
returns-in-Err c = rw c.in-Err.is (search rules)
