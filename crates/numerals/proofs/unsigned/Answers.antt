-- `numerals::unsigned` meets its contract.
use Rattle.std.proofs.Common.{ap, ◌∙◌}
use Rattle.numerals.proofs.Bytes.{stripped}
use Rattle.numerals.proofs.unsigned.Goals as goal

pub returns : goal.returns
returns c = ap (λ b. b.now) c.unwrap_or.ensures ∙ stripped c.args.s c.strip_prefix.result c.strip_prefix.ensures.cases
