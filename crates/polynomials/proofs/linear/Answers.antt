-- `polynomials::linear` meets its contract.
use Prim.Native.Nat.{◌*◌, ◌^◌}
use native.Mathlib.Omega.{arith}
use lib.Dec.{lit<}
use lib.IntN.{◌*ℤ◌}
use Rattle.rules.specs.Units.{century}
use Rattle.rules.specs.Rounding.{rnd}
use Rattle.rules.specs.Polynomials.{times_t_plus, polynomial}
use Rattle.laws.specs.Rounding.{rnd_under}
use Rattle.words.specs.Holds.{Holds, bits, ◌*ʷ◌, arg, got, add, add_ok, mul, mul_ok}
use Rattle.polynomials.proofs.linear.Goals as goal
use Rattle.polynomials.proofs.linear.Goals.{After-rnd_quotient, Start}

t_holds : (c : Start) → Holds (bits c.args.t) c.args.t century
t_holds c = arg c.args.t c.requires.instant tt

c1_holds : (c : Start) → Holds (bits c.args.c1) c.args.c1 (2 ^ 21)
c1_holds c = arg c.args.c1 c.requires.highest_le tt

c0_holds : (c : Start) → Holds (bits c.args.c0) c.args.c0 (2 ^ 60)
c0_holds c = arg c.args.c0 (omega (arith, c.requires.sizes_le)) tt

product_holds : (c : Start)
    → Holds (bits c.args.t *ʷ bits c.args.c1) (c.args.t *ℤ c.args.c1) (century * 2 ^ 21)
product_holds c = mul (t_holds c) (c1_holds c) tt

rounded_holds : (c : After-rnd_quotient)
    → Holds (bits c.rnd_quotient.result) (rnd (c.args.t *ℤ c.args.c1) century) (2 ^ 60)
rounded_holds c =
    let t = c.args.t in
    let p = c.args.c1 in
    got (rw (product_holds c.before).value at c.rnd_quotient.ensures)
    (rnd_under (t *ℤ p) century (2 ^ 60) (lit< tt) (omega (arith, (product_holds c.before).size))) tt

pub overflow_mul-t : goal.overflow_mul-t
overflow_mul-t c = mul_ok (t_holds c) (c1_holds c) tt

pub overflow_add-result : goal.overflow_add-result
overflow_add-result c = add_ok (rounded_holds c) (c0_holds c.before) tt

pub returns : goal.returns
unfolding polynomial times_t_plus
returns c = (add (rounded_holds c) (c0_holds c.before) tt).value
