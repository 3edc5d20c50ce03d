-- `tests_functions::days::TestsDay::from` meets its contract.
use Rattle.std.proofs.Common.{sym, rules}
use Rattle.tests_functions.proofs.OneNumber.{day}
use Rattle.tests_functions.proofs.days.TestsDayFromResultI64Refusal.from.Goals as goal

pub returns : goal.returns
returns c = rw (sym (day c.args.a)) (search rules)
