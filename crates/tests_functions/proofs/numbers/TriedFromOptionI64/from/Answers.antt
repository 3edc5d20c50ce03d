-- `tests_functions::numbers::Tried::from` meets its contract.
use Rattle.std.proofs.Common.{sym, rules}
use Rattle.tests_functions.proofs.OneNumber.{met}
use Rattle.tests_functions.proofs.numbers.TriedFromOptionI64.from.Goals as goal

pub returns : goal.returns
returns c = rw (sym (met c.args.a)) (search rules)
