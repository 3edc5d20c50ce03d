-- `length::part_to` meets its contract.
use Prim.Native.Nat.{◌*◌, ◌^◌}
use mathlib.Core.Path.{◌∙◌}
use native.Mathlib.Omega.{arith}
use lib.IntN.{pos, ◌*ℤ◌}
use Rattle.rules.specs.Units.{unit}
use Rattle.rules.specs.Length.{part_to}
use Rattle.words.specs.Fits.{held64}
use Rattle.words.specs.Holds.{Holds, bits, ◌*ʷ◌, arg, lit, mul, mul_ok}
use Rattle.length.proofs.part_to.Goals as goal

part_holds : (c : goal.Start) → Holds (bits c.args.part) c.args.part (2 ^ 32)
part_holds c = arg c.args.part c.requires.part_le tt

length_holds : (c : goal.Start) → Holds (bits c.args.l) c.args.l (2 ^ 32)
length_holds c = arg c.args.l c.requires.length_le tt

product_holds : (c : goal.Start)
    → Holds (bits c.args.part *ʷ unit) (c.args.part *ℤ pos unit) (2 ^ 32 * unit)
product_holds c = mul (part_holds c) (lit unit tt) tt

pub overflow_mul-part : goal.overflow_mul-part
overflow_mul-part c = mul_ok (part_holds c) (lit unit tt) tt

pub rnd_short_quotient-requires : goal.rnd_short_quotient-requires
rnd_short_quotient-requires c =
    rw ((product_holds c).value, (length_holds c).value)
    (record { a_bound = omega (arith, (product_holds c).size); pos_bound = c.requires.length_pos; b_bound = omega (arith, c.requires.length_le) })

pub returns : goal.returns
unfolding part_to
returns c =
    held64 c.rnd_short_quotient.result c.rnd_short_quotient.type_inv
    ∙ rw ((product_holds c.before).value, (length_holds c.before).value) at c.rnd_short_quotient.ensures
