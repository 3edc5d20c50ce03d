-- `answers::lists::TurbelicusWritten::from` meets its contract.
use Rattle.std.proofs.Common.{sym, rules}
use Rattle.answers.proofs.Numbers.{written}
use Rattle.answers.proofs.lists.TurbelicusWrittenFromResultUsizeRefusal.from.Goals as goal

pub returns : goal.returns
returns c = rw (sym (written c.args.a)) (search rules)
