-- `tests_functions::days::TestsDate::from` meets its contract.
use borrow.Author.Rules.{rules}
use Rattle.rules.specs.Refusals.{given, refused}
use Rattle.rules.specs.Answers.{dated_answer}
use Rattle.tests_functions.specs.Dates.{tests_date}
use Rattle.tests_functions.proofs.days.TestsDateFromResultDateRefusal.from.Goals as goal

pub returns-in-Ok : goal.returns-in-Ok
unfolding tests_date dated_answer given
returns-in-Ok c = rw c.in-Ok.is (search rules)

pub returns-in-Err : goal.returns-in-Err
unfolding tests_date dated_answer refused
returns-in-Err c = rw c.in-Err.is (search rules)
