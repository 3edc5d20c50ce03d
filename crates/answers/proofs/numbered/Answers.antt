-- `answers::numbered` meets its contract.
use borrow.Author.Rules.{rules}
use Rattle.answers.specs.Numbered.{numbered}
use Rattle.answers.proofs.numbered.Goals as goal

pub returns-in-Ok : goal.returns-in-Ok
unfolding numbered
returns-in-Ok g c = rw c.in-Ok.is

pub returns-in-Err : goal.returns-in-Err
unfolding numbered
returns-in-Err g c = rw c.in-Err.is (search rules)
