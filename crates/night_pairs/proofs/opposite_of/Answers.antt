-- `night_pairs::opposite_of` meets its contract.
use Rattle.words.specs.Holds.{Holds, bits, arg, negate, negate_ok}
use Rattle.rules.specs.Units.{unit}
use Rattle.night_pairs.proofs.opposite_of.Goals as goal
use Rattle.night_pairs.proofs.opposite_of.Lts as lts
use Rattle.night_pairs.proofs.opposite_of.Reads as reads

cosine_holds : (c : lts.Start reads.Pre reads.Post) → Holds (bits c.args.p.cosine) c.args.p.cosine unit
cosine_holds c = arg c.args.p.cosine c.requires.cosine_le tt

sine_holds : (c : lts.Start reads.Pre reads.Post) → Holds (bits c.args.p.sine) c.args.p.sine unit
sine_holds c = arg c.args.p.sine c.requires.sine_le tt

pub returns : goal.returns
returns c =
    let start = c.before.before.before in
    rw ((cosine_holds start).value, (negate (sine_holds start) tt).value)

pub overflow_sub-result : goal.overflow_sub-result
overflow_sub-result c = negate_ok (sine_holds c.before.before.before) tt
