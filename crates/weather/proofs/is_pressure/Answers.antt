-- `weather::is_pressure` meets its contract: the two comparisons are the rule's, by the laws of exact values.
use Rattle.std.proofs.Common.{Bool, false, ◌&&◌, pos, sym, ap, ◌∙◌}
use lib.Ieee.{Float, fin, le, of_bits}
use Rattle.laws.specs.Weather.{pressure_by_tests}
use Rattle.weather.proofs.is_pressure.Goals as goal

-- the second comparison, after the first
then : Float → Bool → Bool
then x b = b && le x (fin false 275 (pos 2))

pub returns-then-x : goal.returns-then-x
unfolding of_bits then
returns-then-x c =
    let x = c.args.x in
    ap (then x) (sym c.if-x.true) ∙ pressure_by_tests x

pub returns-else-x : goal.returns-else-x
unfolding of_bits then
returns-else-x c =
    let x = c.args.x in
    c.if-x.false ∙ ap (then x) (sym c.if-x.false) ∙ pressure_by_tests x
