-- `steps::readings` meets its contract.
use mathlib.Core.Path.{◌∙◌}
use Prim.Native.Nat.{◌+◌}
use Rattle.words.specs.Fits.{held64}
use Rattle.words.specs.Holds.{Holds, bits, arg, negate, negate_ok}
use Rattle.rules.specs.declared.Direction.{Direction}
use Rattle.rules.specs.Units.{unit}
use Rattle.rules.specs.Length.{squares}
use Rattle.rules.specs.Turning.{Accepted}
use Rattle.rules.specs.Place.{readings}
use Rattle.laws.specs.Directions.{accepted_parts}
use Rattle.steps.proofs.readings.Goals as goal

x_holds : (v : Direction) → Accepted (squares v) → Holds (bits v.x) v.x (unit + 1)
x_holds v h = arg v.x (accepted_parts v h).x tt

y_holds : (v : Direction) → Accepted (squares v) → Holds (bits v.y) v.y (unit + 1)
y_holds v h = arg v.y (accepted_parts v h).y tt

pub returns : goal.returns
unfolding readings
returns c =
    let start = c.before.before.before.before.before.before.before.before.before in
    let v = start.args.v in
    let w = start.args.w in
    let first = c.before.before.before.before.before.before in
    let second = c.before.before.before.before.before in
    let third = c.before in
    rw (
      rw ((x_holds v start.requires.apparent_accepted).value, (y_holds v start.requires.apparent_accepted).value) at first.read.ensures,
      held64 second.height.result second.height.type_inv ∙ second.height.ensures,
      rw ((negate (x_holds w start.requires.overhead_accepted) tt).value, (y_holds w start.requires.overhead_accepted).value)
          at third.read-2.ensures,
      held64 c.height-2.result c.height-2.type_inv ∙ c.height-2.ensures,
    )

pub read-requires : goal.read-requires
read-requires c =
    let start = c.before.before in
    let x = x_holds start.args.v start.requires.apparent_accepted in
    let y = y_holds start.args.v start.requires.apparent_accepted in
    rw (x.value, y.value) (record { h_le = x.size; v_le = y.size })

pub overflow_sub-w : goal.overflow_sub-w
overflow_sub-w c =
    let start = c.before.before.before.before.before.before in
    negate_ok (x_holds start.args.w start.requires.overhead_accepted) tt

pub read-requires-2 : goal.read-requires-2
read-requires-2 c =
    let start = c.before.before.before.before.before.before.before in
    let x = negate (x_holds start.args.w start.requires.overhead_accepted) tt in
    let y = y_holds start.args.w start.requires.overhead_accepted in
    rw (x.value, y.value) (record { h_le = x.size; v_le = y.size })
