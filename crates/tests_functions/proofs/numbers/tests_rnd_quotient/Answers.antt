-- `tests_functions::numbers::tests_rnd_quotient` meets its contract.
use Rattle.std.proofs.Common.{rules, nat_abs, ◌≡◌, sym, ◌∙◌, true, pos, ◌^◌}
use mir.Facts.{to_z-of_z}
use Rattle.std.specs.Option.{IfSome}
use Rattle.rules.specs.Units.{between}
use Rattle.rules.specs.Rounding.{rnd}
use Rattle.tests_functions.proofs.OneNumber.{tried_is}
use Rattle.laws.specs.Units.{positive, positive_le}
use Rattle.tests_functions.specs.Numbers.{rnd_quotient_tried}
use Rattle.tests_functions.proofs.numbers.tests_rnd_quotient.Goals as goal

pub then-requires : goal.then-requires
then-requires c = λ yes _ _ _ _ _ _.
    let b = c.args.b in
    let fits : between (pos 1) (pos (2 ^ 62)) b ≡ true =
    sym (rw (to_z-of_z c.ranges.b) at c.is_between-is_met.ensures) ∙ yes in
    rw (to_z-of_z c.ranges.b, to_z-of_z c.ranges.b) (positive (2 ^ 62) b fits, positive_le (2 ^ 62) b fits)

pub returns : goal.returns
unfolding rnd_quotient_tried
returns c =
    let a = c.args.a in
    let b = c.args.b in
    let given : IfSome c.then.result (λ x. x ≡ rnd a (nat_abs b)) = search (rules, c.then.ensures.some) in
    c.into.ensures
    ∙ tried_is c.then.result _ _ (c.then.ensures.variant ∙ rw (to_z-of_z c.ranges.b) at c.is_between-is_met.ensures) given
