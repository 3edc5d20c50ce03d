-- `tests_functions::angle_sets::TestsFiveArguments::from` meets its contract.
use borrow.Author.Rules.{rules}
use Rattle.rules.specs.Refusals.{given, refused}
use Rattle.rules.specs.Answers.{five_arguments_answer}
use Rattle.tests_functions.specs.Angles.{tests_five_arguments}
use Rattle.tests_functions.proofs.angle_sets.TestsFiveArgumentsFromResultArgumentsRefusal.from.Goals as goal

pub returns-in-Ok : goal.returns-in-Ok
unfolding tests_five_arguments five_arguments_answer given
returns-in-Ok c = rw c.in-Ok.is (search rules)

pub returns-in-Err : goal.returns-in-Err
unfolding tests_five_arguments five_arguments_answer refused
returns-in-Err c = rw c.in-Err.is (search rules)
