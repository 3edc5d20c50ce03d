-- `rounding::rnd_quotient` meets its contract: any dividend fits, so each part is shown to fit by its own law.
use mathlib.Core.Path.{◌≡◌, ◌∙◌}
use lib.IntN.{pos, nat_abs, ◌+ℤ◌, ◌*ℤ◌}
use lib.Signed.{quot_z, rem_z}
use mir.Syntax.{w64}
use mir.Val.{SFits, to_z, of_z}
use mir.Facts.{to_z-of_z}
use mir.ValLaws.{sfits_le}
use Rattle.integers.specs.Quotient.{size_pos}
use Rattle.words.specs.Fits.{held64, quot_fits, rem_fits}
use Rattle.laws.specs.Rounding.{rnd_by_quotients, mag_rnd}
use Rattle.rounding.proofs.rnd_quotient.Goals as goal

-- ---- what the words hold

a_held : (c : goal.After-one_away) → to_z w64 (of_z w64 c.args.a) ≡ c.args.a
a_held c = to_z-of_z c.ranges.a

b_held : (c : goal.After-one_away) → to_z w64 (of_z w64 c.args.b) ≡ c.args.b
b_held c = to_z-of_z c.ranges.b

quotient_held : (c : goal.After-one_away) → to_z w64 (of_z w64 (quot_z c.args.a c.args.b)) ≡ quot_z c.args.a c.args.b
quotient_held c = to_z-of_z (quot_fits c.args.a c.args.b c.ranges.a c.requires.pos_bound)

rest_held : (c : goal.After-one_away) → to_z w64 (of_z w64 (rem_z c.args.a c.args.b)) ≡ rem_z c.args.a c.args.b
rest_held c = to_z-of_z (rem_fits c.args.a c.args.b c.ranges.a)

ruleset held = (a_held, b_held, quotient_held, rest_held)

step_is : (c : goal.After-one_away)
    → to_z w64 (of_z w64 c.one_away.result)
    ≡ quot_z (pos 2 *ℤ rem_z c.args.a c.args.b) c.args.b
step_is c = held64 c.one_away.result c.one_away.type_inv ∙ simp held at c.one_away.ensures

sum_fits : (c : goal.After-one_away)
    → SFits w64 (quot_z c.args.a c.args.b +ℤ quot_z (pos 2 *ℤ rem_z c.args.a c.args.b) c.args.b)
sum_fits c =
    let b = c.args.b in
    rw (rnd_by_quotients c.args.a b c.requires.pos_bound)
    (sfits_le (mag_rnd c.args.a (nat_abs b) (size_pos b c.requires.pos_bound)) c.ranges.a)

pub overflow_add-result : goal.overflow_add-result
overflow_add-result c = simp (held, step_is c) (sum_fits c)

pub returns : goal.returns
returns c =
    simp (held, step_is c, to_z-of_z (sum_fits c))
    (rnd_by_quotients c.args.a c.args.b c.requires.pos_bound)
