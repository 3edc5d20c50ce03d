-- `answers::places::TurbelicusPlaced::from` meets its contract.
use borrow.Author.Rules.{rules}
use Rattle.rules.specs.Refusals.{given, refused}
use Rattle.rules.specs.Answers.{place_numbers, placed_answer}
use Rattle.answers.specs.Answers.{placed_out}
use Rattle.answers.proofs.Angles.{flag_shown}
use Rattle.answers.proofs.places.TurbelicusPlacedFromResultPlaceRefusal.from.Goals as goal

pub returns-in-Ok : goal.returns-in-Ok
unfolding placed_out placed_answer place_numbers given
returns-in-Ok c = rw c.in-Ok.is (search (rules, flag_shown))

pub returns-in-Err : goal.returns-in-Err
unfolding placed_out placed_answer refused
returns-in-Err c = rw c.in-Err.is (search rules)
