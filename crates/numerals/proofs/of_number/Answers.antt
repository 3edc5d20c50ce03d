-- `numerals::of_number` meets its contract.
use Rattle.rules.specs.Numerals.{of_number}
use Rattle.numerals.proofs.of_number.Goals as goal

pub returns : goal.returns
unfolding of_number
returns c = rw c.unsigned.ensures at c.of_digits.ensures
