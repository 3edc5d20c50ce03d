-- `tests_functions::pairs::tests_pair` meets its contract.
use mathlib.Core.Path.{◌≡◌, ap}
use mir.Facts.{to_z-of_z}
use Rattle.rules.specs.Units.{unit}
use Rattle.rules.specs.Circle.{pair}
use Rattle.laws.specs.Angles.{pair_sized}
use Rattle.words.specs.Holds.{Holds, bits, got}
use Rattle.tests_functions.specs.Pairs.{tests_pair}
use Rattle.tests_functions.proofs.pairs.tests_pair.Goals as goal
use Rattle.tests_functions.proofs.pairs.tests_pair.Lts as lts
use Rattle.tests_functions.proofs.pairs.tests_pair.Reads as reads
use Rattle.tests_functions.proofs.pairs.tests_pair.Tie as tie

pair_is : (c : lts.After-pair tie.the-claims reads.Pre reads.Post) → c.pair-p.result ≡ pair c.args.angle
pair_is c = rw (to_z-of_z c.ranges.angle) at c.pair-p.ensures

cosine_holds : (c : lts.After-pair tie.the-claims reads.Pre reads.Post)
    → Holds (bits c.pair-p.result.cosine) (pair c.args.angle).cosine unit
cosine_holds c = got (ap (λ p. p.cosine) (pair_is c)) (pair_sized c.args.angle).cosine_le tt

sine_holds : (c : lts.After-pair tie.the-claims reads.Pre reads.Post) → Holds (bits c.pair-p.result.sine) (pair c.args.angle).sine unit
sine_holds c = got (ap (λ p. p.sine) (pair_is c)) (pair_sized c.args.angle).sine_le tt

pub returns : goal.returns
unfolding tests_pair
returns c = rw ((cosine_holds c.before).value, (sine_holds c.before).value)
