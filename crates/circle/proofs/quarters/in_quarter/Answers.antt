-- `circle::quarters::in_quarter` meets its contract.
use Rattle.std.specs.Prelude.{◌≡◌, ◌+◌, ◌≤◌, ℤ, neg_ℤ, nat_abs}
use Rattle.std.proofs.Common.{◌∙◌, arith}
use lib.IntN.{+ℤ_idl}
use Rattle.rules.specs.Units.{unit}
use Rattle.rules.specs.Circle.{in_quarter}
use Rattle.laws.specs.UpTo.{up_to_le}
use Rattle.words.specs.Holds.{Holds, bits, ◌-ʷ◌, arg, lit, sub}
use Rattle.circle.specs.Bits.{size_of_bits}
use Rattle.circle.proofs.quarters.in_quarter.Goals as goal

part_holds : (z : ℤ) → nat_abs z ≤ unit → Holds (bits z) z unit
part_holds z h = arg z h tt

minus : (z : ℤ) → nat_abs z ≤ unit → Holds (0 -ʷ bits z) (neg_ℤ z) (0 + unit)
minus z l =
    let h = sub (lit 0 tt) (part_holds z l) tt in
    record { value = h.value ∙ +ℤ_idl (neg_ℤ z); size = rw (+ℤ_idl (neg_ℤ z)) at h.size }

pub returns-in-0 : goal.returns-in-0
unfolding in_quarter
returns-in-0 c =
    let q : nat_abs c.args.q ≡ 0 = omega (arith, size_of_bits c.args.q 3 c.requires.q_range) in
    rw q

pub returns-in-1 : goal.returns-in-1
unfolding in_quarter
returns-in-1 c =
    let q : nat_abs c.args.q ≡ 1 = omega (arith, size_of_bits c.args.q 3 c.requires.q_range) in
    rw (q, (minus c.args.pair.sine c.requires.sine_le).value, (part_holds c.args.pair.cosine c.requires.cosine_le).value)

pub returns-in-2 : goal.returns-in-2
unfolding in_quarter
returns-in-2 c =
    let q : nat_abs c.args.q ≡ 2 = omega (arith, size_of_bits c.args.q 3 c.requires.q_range) in
    rw (q, (minus c.args.pair.cosine c.requires.cosine_le).value, (minus c.args.pair.sine c.requires.sine_le).value)

pub returns-in_default : goal.returns-in_default
unfolding in_quarter
returns-in_default c =
    let q : nat_abs c.args.q ≡ 3 =
    omega (arith, size_of_bits c.args.q 3 c.requires.q_range, up_to_le c.args.q 3 c.requires.q_range) in
    rw (q, (part_holds c.args.pair.sine c.requires.sine_le).value, (minus c.args.pair.cosine c.requires.cosine_le).value)
