-- `answers::observed::TurbelicusAltitude::from` meets its contract.
use Rattle.std.proofs.Common.{sym, rules}
use Rattle.answers.proofs.Numbers.{lifted}
use Rattle.answers.proofs.observed.TurbelicusAltitudeFromResultI64Refusal.from.Goals as goal

pub returns : goal.returns
returns c = rw (sym (lifted c.args.a)) (search rules)
