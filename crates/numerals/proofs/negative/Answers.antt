-- `numerals::negative` meets its contract.
use Rattle.std.proofs.Common.{◌∙◌}
use Rattle.numerals.proofs.Bytes.{minus_is}
use Rattle.numerals.proofs.negative.Goals as goal

pub returns : goal.returns
returns c = c.starts_with.ensures.value ∙ minus_is c.args.s.now
