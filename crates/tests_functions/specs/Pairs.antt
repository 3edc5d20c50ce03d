-- What the tests' export of the pair answers. Definitions only.
use Rattle.std.specs.Prelude.{ℤ}
use Rattle.rules.specs.Circle.{pair}
use Rattle.tests_functions.specs.declared.pairs.TestsPair.{TestsPair}

unfoldable pub tests_pair : ℤ → TestsPair
tests_pair a = record { cosine = (pair a).cosine; sine = (pair a).sine }
