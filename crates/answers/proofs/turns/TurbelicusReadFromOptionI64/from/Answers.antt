-- `answers::turns::TurbelicusRead::from` meets its contract.
use borrow.Author.Rules.{rules}
use Rattle.rules.specs.Refusals.{given}
use Rattle.rules.specs.Answers.{read_answer}
use Rattle.answers.specs.Answers.{read_out}
use Rattle.answers.proofs.Angles.{unwrapped, flagged}
use Rattle.answers.proofs.turns.TurbelicusReadFromOptionI64.from.Goals as goal

pub returns : goal.returns
unfolding read_out read_answer given
returns c = search (rules, unwrapped, flagged)
