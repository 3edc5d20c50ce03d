-- `line_places::air::is_accepted` meets its contract.
use Rattle.std.proofs.Common.{◌≡◌, sym, ap, rules}
use mir.Syntax.{w64}
use mir.Val.{to_z, of_z}
use Rattle.rules.specs.Units.{+◌, between}
use Rattle.line_places.specs.Air.{air_accepted}
use Rattle.line_places.proofs.air.is_accepted.Goals as goal

pub returns-in-None : goal.returns-in-None
unfolding air_accepted
returns-in-None c = sym (ap air_accepted c.in-None.is)

pub returns-then-is_between : goal.returns-then-is_between
unfolding air_accepted
returns-then-is_between c =
    let air = c.in-Some.air in
    let p : to_z w64 (of_z w64 air.pressure) ≡ air.pressure = search rules in
    let t : to_z w64 (of_z w64 air.temperature) ≡ air.temperature = search rules in
    let low : between (+ 5000) (+ 11000) air.pressure ≡ c.is_between.result = sym (rw p at c.is_between.ensures) in
    rw (c.in-Some.is, low, c.if-is_between.true) (rw t at c.is_between-then-is_between.ensures)

pub returns-else-is_between : goal.returns-else-is_between
unfolding air_accepted
returns-else-is_between c =
    let air = c.in-Some.air in
    let p : to_z w64 (of_z w64 air.pressure) ≡ air.pressure = search rules in
    let low : between (+ 5000) (+ 11000) air.pressure ≡ c.is_between.result = sym (rw p at c.is_between.ensures) in
    rw (c.in-Some.is, low, c.if-is_between.false)
