-- `weather::is_temperature` meets its contract: the two comparisons are the rule's, by the laws of exact values.
use Rattle.std.proofs.Common.{Bool, false, ◌&&◌, pos, sym, ap, ◌∙◌}
use lib.Ieee.{Float, fin, le, of_bits, neg}
use Rattle.laws.specs.Weather.{temperature_by_tests}
use Rattle.weather.proofs.is_temperature.Goals as goal

-- the second comparison, after the first
then : Float → Bool → Bool
then x b = b && le x (fin false 25 (pos 1))

pub returns-then-x : goal.returns-then-x
unfolding of_bits neg then
returns-then-x c =
    let x = c.args.x in
    ap (then x) (sym c.if-x.true) ∙ temperature_by_tests x

pub returns-else-x : goal.returns-else-x
unfolding of_bits neg then
returns-else-x c =
    let x = c.args.x in
    c.if-x.false ∙ ap (then x) (sym c.if-x.false) ∙ temperature_by_tests x
