-- `tests_functions::angles::TestsAngle::from` meets its contract.
use Rattle.std.proofs.Common.{sym, rules}
use Rattle.tests_functions.proofs.OneNumber.{angle}
use Rattle.tests_functions.proofs.angles.TestsAngleFromResultI64Refusal.from.Goals as goal

pub returns : goal.returns
returns c = rw (sym (angle c.args.a)) (search rules)
