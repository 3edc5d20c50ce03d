-- `night_pairs::latitude_pair` meets its contract.
use Prim.Native.Nat.{◌+◌, ◌^◌}
use lib.IntN.{pos, ◌-ℤ◌}
use lib.Signed.{lt_z_yes}
use Rattle.words.specs.Holds.{Holds, bits, ◌-ʷ◌, arg, lit, sub, sub_ok, div_ok, rem}
use Rattle.rules.specs.Units.{circle, quarter}
use Rattle.rules.specs.Rounding.{remainder}
use Rattle.night_pairs.proofs.latitude_pair.Goals as goal
use Rattle.night_pairs.proofs.latitude_pair.Goals.{Start}

latitude_holds : (c : Start) → Holds (bits c.args.latitude) c.args.latitude (2 ^ 60)
latitude_holds c = arg c.args.latitude c.requires tt

angle_holds : (c : Start)
    → Holds (bits c.args.latitude -ʷ quarter) (c.args.latitude -ℤ pos quarter) (2 ^ 60 + quarter)
angle_holds c = sub (latitude_holds c) (lit quarter tt) tt

pub overflow_sub-latitude : goal.overflow_sub-latitude
overflow_sub-latitude c = sub_ok (latitude_holds c) (lit quarter tt) tt

pub nonzero_rem-latitude : goal.nonzero_rem-latitude
nonzero_rem-latitude c = div_ok (angle_holds c) (lit circle tt) (lt_z_yes tt) tt

pub returns : goal.returns
unfolding remainder
returns c = rw (rem (angle_holds c.before) (lit circle tt) (lt_z_yes tt) tt).value at c.pair.ensures
