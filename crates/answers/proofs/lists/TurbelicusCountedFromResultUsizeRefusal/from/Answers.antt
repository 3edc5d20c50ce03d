-- `answers::lists::TurbelicusCounted::from` meets its contract.
use Rattle.std.proofs.Common.{sym, rules}
use Rattle.answers.proofs.Numbers.{counted}
use Rattle.answers.proofs.lists.TurbelicusCountedFromResultUsizeRefusal.from.Goals as goal

pub returns : goal.returns
returns c = rw (sym (counted c.args.a)) (search rules)
