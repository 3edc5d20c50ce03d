-- `refraction::argument` meets its contract.
use Prim.Native.Nat.{◌+◌, ◌^◌}
use lib.IntN.{pos, nat_abs, ◌+ℤ◌}
use Rattle.rules.specs.Units.{quarter}
use Rattle.rules.specs.Rounding.{rnd}
use Rattle.laws.specs.Product.{carried_le}
use Rattle.words.specs.Holds.{Holds, bits, ◌+ʷ◌, arg, got, lit, add, add_ok}
use Rattle.rules.specs.Refraction.{argument}
use Rattle.laws.specs.RefractionArgument.{lifted_size, argument_fits}
use Rattle.refraction.proofs.argument.Goals as goal

altitude_holds : (c : goal.Start) → Holds (bits c.args.h) c.args.h quarter
altitude_holds c = arg c.args.h (lifted_size c.args.h c.requires) tt

divisor_holds : (c : goal.Start)
    → Holds (bits c.args.h +ʷ 18396000000) (c.args.h +ℤ pos 18396000000) (quarter + 18396000000)
divisor_holds c = add (altitude_holds c) (lit 18396000000 tt) tt

quotient_holds : (c : goal.After-rnd_product_quotient)
    → Holds (bits c.rnd_product_quotient.result)
    (rnd (pos 133488000000000000000) (nat_abs (c.args.h +ℤ pos 18396000000))) (2 ^ 61)
quotient_holds c =
    let h = c.args.h in
    got (rw (divisor_holds c.before).value at c.rnd_product_quotient.ensures)
    (carried_le (pos 133488000000) (pos 1000000000) (h +ℤ pos 18396000000) (argument_fits h c.requires)) tt

pub returns : goal.returns
unfolding argument
returns c = (add (altitude_holds c.before) (quotient_holds c) tt).value

pub overflow_add-h : goal.overflow_add-h
overflow_add-h c = add_ok (altitude_holds c) (lit 18396000000 tt) tt

pub rnd_product_quotient-requires : goal.rnd_product_quotient-requires
rnd_product_quotient-requires c = rw (divisor_holds c).value (argument_fits c.args.h c.requires)

pub overflow_add-result : goal.overflow_add-result
overflow_add-result c = add_ok (altitude_holds c.before) (quotient_holds c) tt
