-- `arcs::arc_stage` meets its contract.
use native.Mathlib.Omega.{arith}
use lib.Dec.{lit<, lit≤}
use lib.IntN.{pos, nat_abs, ◌*ℤ◌}
use Rattle.rules.specs.Units.{unit}
use Rattle.rules.specs.Rounding.{rnd}
use Rattle.rules.specs.Reading as rule
use Rattle.laws.specs.Rounding.{rnd_le}
use Rattle.laws.specs.UpTo.{up_to_le, up_to_product}
use Rattle.words.specs.Holds.{Holds, bits, got, sub, sub_ok}
use Rattle.rounding.proofs.ByUnit.{product_fits, product_asked, product_rounded}
use Rattle.series.proofs.Stages.{w_holds, p_holds, k_holds, k_above}
use Rattle.arcs.proofs.arc_stage.Goals as goal

first_holds : (c : goal.After-rnd_quotient)
    → Holds (bits c.rnd_quotient.result) (rnd (pos unit) (nat_abs c.args.k)) unit
first_holds c =
    let k = c.args.k in
    got (rw (k_holds c.requires).value at c.rnd_quotient.ensures)
    (rnd_le (pos unit) (nat_abs k) c.requires.k_pos) tt

second_holds : (c : goal.After-rnd_by_unit)
    → Holds (bits c.rnd_by_unit.result) (rnd (c.args.w *ℤ c.args.p) unit) unit
second_holds c =
    let b = c.before.before in
    let i = up_to_product b.args.w b.args.p unit unit unit unit b.requires.w_range b.requires.p_range
    (lit< tt) (lit≤ tt) in
    got (product_rounded (w_holds b.requires) (p_holds b.requires) tt c.rnd_by_unit.ensures) (up_to_le _ unit i) tt

pub rnd_quotient-requires : goal.rnd_quotient-requires
rnd_quotient-requires c =
    rw (k_holds c.requires).value (record { pos_bound = k_above c.requires; b_bound = omega (arith, (k_holds c.requires).size) })

pub overflow_mul-w : goal.overflow_mul-w
overflow_mul-w c = product_fits (w_holds c.requires) (p_holds c.requires) tt

pub rnd_by_unit-requires : goal.rnd_by_unit-requires
rnd_by_unit-requires c = product_asked (w_holds c.requires) (p_holds c.requires) tt

pub overflow_sub-result : goal.overflow_sub-result
overflow_sub-result c = sub_ok (first_holds c.before) (second_holds c) tt

pub returns : goal.returns
unfolding rule.arc_stage
returns c = (sub (first_holds c.before) (second_holds c) tt).value
