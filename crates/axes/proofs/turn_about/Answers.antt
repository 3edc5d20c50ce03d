-- `axes::turn_about` meets its contract: the arm taken is that of the axis.
use Rattle.std.specs.Prelude.{◌≡◌}
use Rattle.std.proofs.Common.{ap, sym, ◌∙◌, arith, w64, to_z, of_z, to_z-of_z}
use Rattle.rules.specs.declared.Pair.{Pair}
use Rattle.rules.specs.declared.Direction.{Direction}
use Rattle.rules.specs.Units.{+◌}
use Rattle.rules.specs.Turning.{exchanged, turn1, turn2, turn_about}
use Rattle.laws.specs.Units.{same_of, not_same}
use Rattle.laws.specs.Turning.{exchanged_squares}
use Rattle.axes.specs.Given.{TurnFits}
use Rattle.axes.proofs.turn_about.Goals as goal

exchanged_fits : (v : Direction) (p : Pair) → TurnFits v p → TurnFits (exchanged v) p
exchanged_fits v p h = record { direction = rw (exchanged_squares v) h.direction; pair = h.pair }

pub turn_3-requires : goal.turn_3-requires
turn_3-requires c = rw c.exchange.ensures (exchanged_fits c.args.v c.args.p c.requires)

pub turn_3-requires-in-2 : goal.turn_3-requires-in-2
turn_3-requires-in-2 c =
    rw (c.exchange-in-2-2.ensures, c.exchange-in-2.ensures)
    (exchanged_fits (exchanged c.args.v) c.args.p (exchanged_fits c.args.v c.args.p c.requires))

pub returns-in-1 : goal.returns-in-1
unfolding turn_about turn1
returns-in-1 c =
    let bits : of_z w64 c.args.axis ≡ 1 = omega arith in
    let is_1 = same_of c.args.axis (+ 1) (sym (to_z-of_z c.ranges.axis) ∙ ap (to_z w64) bits) in
    rw (is_1, c.exchange-in-1-2.ensures, c.exchange-in-1.ensures, c.turn_3.ensures, c.exchange.ensures)

pub returns-in-2 : goal.returns-in-2
unfolding turn_about turn2
returns-in-2 c =
    let bits : of_z w64 c.args.axis ≡ 2 = omega arith in
    let not_1 = not_same c.args.axis (+ 1) (λ e. let one : of_z w64 c.args.axis ≡ 1 = ap (of_z w64) e in omega arith) in
    let is_2 = same_of c.args.axis (+ 2) (sym (to_z-of_z c.ranges.axis) ∙ ap (to_z w64) bits) in
    rw (
      not_1,
      is_2,
      c.exchange-in-2-3.ensures,
      c.turn_3-in-2.ensures,
      c.exchange-in-2-2.ensures,
      c.exchange-in-2.ensures,
    )

pub returns-in_default : goal.returns-in_default
unfolding turn_about
returns-in_default c =
    let not_1 = not_same c.args.axis (+ 1) (λ e. let one : of_z w64 c.args.axis ≡ 1 = ap (of_z w64) e in omega arith) in
    let not_2 = not_same c.args.axis (+ 2) (λ e. let two : of_z w64 c.args.axis ≡ 2 = ap (of_z w64) e in omega arith) in
    rw (not_1, not_2) c.turn_3-in_default.ensures
