-- `night_pairs::scaled` meets its contract.
use mathlib.Core.Path.{◌∙◌}
use Prim.Native.Nat.{◌*◌, ◌^◌}
use native.Mathlib.Omega.{arith}
use lib.IntN.{◌*ℤ◌}
use Rattle.words.specs.Fits.{held64}
use Rattle.words.specs.Holds.{Holds, bits, ◌*ʷ◌, arg, mul, mul_ok}
use Rattle.rules.specs.Units.{unit}
use Rattle.night_pairs.proofs.scaled.Goals as goal

k_holds : (c : goal.Start) → Holds (bits c.args.k) c.args.k (2 ^ 31)
k_holds c = arg c.args.k c.requires.number_le tt

part_holds : (c : goal.Start) → Holds (bits c.args.part) c.args.part unit
part_holds c = arg c.args.part c.requires.part_le tt

product_holds : (c : goal.Start)
    → Holds (bits c.args.k *ʷ bits c.args.part) (c.args.k *ℤ c.args.part) (2 ^ 31 * unit)
product_holds c = mul (k_holds c) (part_holds c) tt

pub returns : goal.returns
returns c =
    held64 c.rnd_by_unit.result c.rnd_by_unit.type_inv
    ∙ rw (product_holds c.before).value at c.rnd_by_unit.ensures

pub overflow_mul-k : goal.overflow_mul-k
overflow_mul-k c = mul_ok (k_holds c) (part_holds c) tt

pub rnd_by_unit-requires : goal.rnd_by_unit-requires
rnd_by_unit-requires c = rw (product_holds c).value (omega (arith, (product_holds c).size))
