-- `answers::given::weather_of` meets its contract.
use Rattle.std.proofs.Common.{arith}
use Rattle.std.proofs.lemmas.Int.{ints}
use Rattle.std.proofs.lemmas.Bool.Decides.{nat_tests}
use Rattle.rules.specs.Units.{same}
use Rattle.answers.proofs.given.weather_of.Goals as goal

pub returns : goal.returns
unfolding same
returns c = grind (arith, ints, nat_tests)
