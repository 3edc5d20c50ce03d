-- `list_bytes::low_byte` meets its contract.
use mathlib.Core.Path.{◌≡◌, refl, ◌∙◌, ap}
use Prim.Native.Nat.{◌<◌, ◌%◌, ◌^◌}
use native.Mathlib.Omega.{arith}
use lib.Bits.{and_mask, bit_and}
use lib.IntN.{ℤ, pos, negsuc, nat_abs}
use lib.Signed.{mag}
use mir.Facts.{to_z_pos}
use mir.Syntax.{w64}
use mir.Val.{to_z, of_z}
use lib.Dec.{lit<}
use Rattle.rules.specs.Rounding.{modulo}
use Rattle.laws.specs.Modulo.{modulo_lt}
use Rattle.list_bytes.proofs.low_byte.Goals as goal

low_bits : (z : ℤ) → mag z < 2 ^ 63 → of_z w64 z % 256 ≡ modulo z 256
unfolding modulo
low_bits (pos n) l = refl
low_bits (negsuc n) l = omega (arith, l)

masked : (c : goal.Start) → to_z w64 (bit_and (of_z w64 c.args.z) 255) ≡ pos (modulo c.args.z 256)
masked c =
    let e : bit_and (of_z w64 c.args.z) 255 ≡ modulo c.args.z 256 = and_mask (of_z w64 c.args.z) 8
    ∙ low_bits c.args.z c.ranges.z.sfits in
    ap (to_z w64) e ∙ to_z_pos w64 (omega (arith, modulo_lt c.args.z 256 (lit< tt)))

pub returns : goal.returns
returns c = ap nat_abs (masked c)
