-- `answers::lists::TurbelicusStarred::from` meets its contract.
use borrow.Author.Rules.{rules}
use Rattle.rules.specs.Refusals.{given, refused}
use Rattle.rules.specs.Answers.{listed_star_answer}
use Rattle.answers.specs.Answers.{starred_out}
use Rattle.answers.proofs.lists.TurbelicusStarredFromResultStarRefusal.from.Goals as goal

pub returns-in-Ok : goal.returns-in-Ok
unfolding starred_out listed_star_answer given
returns-in-Ok c = rw c.in-Ok.is (search rules)

pub returns-in-Err : goal.returns-in-Err
unfolding starred_out listed_star_answer refused
returns-in-Err c = rw c.in-Err.is (search rules)
