-- `numerals::tenths::of_tenths` meets its contract.
use Rattle.std.proofs.Common.{ap, ◌∙◌}
use Rattle.numerals.specs.Tenths.{of_size, of_tenths}
use Rattle.numerals.proofs.tenths.of_tenths.Goals as goal

pub returns : goal.returns
unfolding of_tenths
returns c = c.of_size.ensures ∙ ap of_size c.unsigned.ensures
