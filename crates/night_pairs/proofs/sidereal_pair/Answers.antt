-- `night_pairs::sidereal_pair` meets its contract.
use Prim.Native.Nat.{◌+◌, ◌^◌}
use lib.IntN.{ℤ, ◌+ℤ◌, ◌*ℤ◌}
use lib.Signed.{lt_z_yes}
use Rattle.words.specs.Holds.{Holds, bits, ◌+ʷ◌, arg, got, lit, add, add_ok, negate, negate_ok, div_ok, rem}
use Rattle.rules.specs.Units.{circle, unit}
use Rattle.rules.specs.Rounding.{rnd, remainder}
use Rattle.rules.specs.Sidereal.{sidereal}
use Rattle.laws.specs.Night.{scaled_le, sidereal_le}
use Rattle.night_pairs.proofs.sidereal_pair.Goals as goal
use Rattle.night_pairs.proofs.sidereal_pair.Goals.{After-scaled, After-sidereal_of, Start}

nutation_holds : (c : Start) → Holds (bits c.args.nutation) c.args.nutation (2 ^ 31)
nutation_holds c = arg c.args.nutation c.requires.nutation_le tt

cosine_holds : (c : Start) → Holds (bits c.args.cosine) c.args.cosine unit
cosine_holds c = arg c.args.cosine c.requires.cosine_le tt

longitude_holds : (c : Start) → Holds (bits c.args.longitude) c.args.longitude circle
longitude_holds c = arg c.args.longitude c.requires.longitude_le tt

sidereal_holds : (c : After-sidereal_of)
    → Holds (bits c.sidereal_of.result) (sidereal c.args.ut) circle
sidereal_holds c = got c.sidereal_of.ensures (sidereal_le c.args.ut) tt

abbrev equinoxes : Start → ℤ
equinoxes c = rnd (c.args.nutation *ℤ c.args.cosine) unit

equinoxes_hold : (c : After-scaled)
    → Holds (bits c.scaled.result) (equinoxes c.before.before) (2 ^ 31)
equinoxes_hold c =
    let start = c.before.before in
    let a = start.args in
    got (rw ((nutation_holds start).value, (cosine_holds start).value) at c.scaled.ensures)
    (scaled_le a.nutation a.cosine (2 ^ 31) start.requires.nutation_le start.requires.cosine_le) tt

abbrev longitude : After-scaled → ℤ
longitude c = c.args.longitude

local_holds : (c : After-scaled)
    → Holds (bits c.sidereal_of.result +ʷ bits c.scaled.result +ʷ bits (longitude c))
    (sidereal c.args.ut +ℤ equinoxes c.before.before +ℤ longitude c)
    (circle + 2 ^ 31 + circle)
local_holds c =
    add (add (sidereal_holds c.before) (equinoxes_hold c) tt) (longitude_holds c.before.before) tt

pub returns : goal.returns
unfolding remainder
returns c =
    rw (rem (negate (local_holds c.before) tt) (lit circle tt) (lt_z_yes tt) tt).value at c.pair.ensures

pub overflow_add-local : goal.overflow_add-local
overflow_add-local c = add_ok (sidereal_holds c.before) (equinoxes_hold c) tt

pub overflow_add-local-2 : goal.overflow_add-local-2
overflow_add-local-2 c =
    add_ok (add (sidereal_holds c.before) (equinoxes_hold c) tt) (longitude_holds c.before.before) tt

pub overflow_sub-local : goal.overflow_sub-local
overflow_sub-local c = negate_ok (local_holds c) tt

pub nonzero_rem-local : goal.nonzero_rem-local
nonzero_rem-local c = div_ok (negate (local_holds c) tt) (lit circle tt) (lt_z_yes tt) tt
