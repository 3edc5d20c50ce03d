-- `polynomials::step` meets its contract.
use mathlib.Core.Path.{◌≡◌}
use Prim.Native.Nat.{◌^◌}
use native.Mathlib.Nat.{mul-le-mul}
use lib.Dec.{lit<}
use lib.IntN.{◌*ℤ◌}
use mir.Syntax.{w64}
use mir.Val.{to_z, of_z}
use mir.Facts.{to_z-of_z}
use Rattle.integers.specs.Size.{abs_mul}
use Rattle.rules.specs.Units.{century}
use Rattle.rules.specs.Rounding.{rnd}
use Rattle.rules.specs.Polynomials.{times_t_plus}
use Rattle.laws.specs.Rounding.{rnd_under}
use Rattle.laws.specs.Product.{polynomial_fits}
use Rattle.words.specs.Holds.{Holds, bits, arg, got, add, add_ok}
use Rattle.polynomials.proofs.times_t_plus.Goals as goal

t_held : (c : goal.Start) → to_z w64 (of_z w64 c.args.t) ≡ c.args.t
t_held c = to_z-of_z c.ranges.t

p_held : (c : goal.Start) → to_z w64 (of_z w64 c.args.p) ≡ c.args.p
p_held c = to_z-of_z c.ranges.p

rounded_holds : (c : goal.After-rnd_product_quotient)
    → Holds (bits c.rnd_product_quotient.result) (rnd (c.args.t *ℤ c.args.p) century) (2 ^ 60)
rounded_holds c =
    let t = c.args.t in
    let p = c.args.p in
    let fits = c.requires in
    got (simp (t_held, p_held) at c.rnd_product_quotient.ensures)
    (rnd_under (t *ℤ p) century (2 ^ 60) (lit< tt)
    (rw (abs_mul t p) (mul-le-mul fits.instant fits.value_le))) tt

next_holds : (c : goal.Start) → Holds (bits c.args.next) c.args.next (2 ^ 60)
next_holds c = arg c.args.next c.requires.next_le tt

pub rnd_product_quotient-requires : goal.rnd_product_quotient-requires
rnd_product_quotient-requires c =
    simp (t_held, p_held) (polynomial_fits c.args.t c.args.p c.requires.instant c.requires.value_le)

pub overflow_add-result : goal.overflow_add-result
overflow_add-result c = add_ok (rounded_holds c) (next_holds c.before) tt

pub returns : goal.returns
unfolding times_t_plus
returns c = (add (rounded_holds c) (next_holds c.before) tt).value
