-- `turning::is_turn` meets its contract.
use mathlib.Core.Path.{◌≡◌, refl, sym, ◌∙◌}
use mathlib.Core.Bool.{Bool, true, false, not}
use lib.Signed.{lt_z}
use mir.Syntax.{w64}
use mir.Val.{to_z, of_z}
use mir.Facts.{to_z-of_z}
use Rattle.rules.specs.Units.{circle, +◌, −◌, between}
use Rattle.rules.specs.Turning.{turn_refused}
use Rattle.turning.proofs.is_turn.Goals as goal
use Rattle.turning.proofs.is_turn.Goals.{Else-not-is_between}
use Rattle.turning.proofs.is_turn.Lts as lts
use Rattle.turning.proofs.is_turn.Tie as tie
use Rattle.turning.proofs.is_turn.Reads as reads

twice_not : (b : Bool) → b ≡ not (not b)
twice_not true = refl
twice_not false = refl

tested : (c : lts.After-is_between tie.the-claims reads.Pre reads.Post) → c.is_between.result ≡ between (+ 1) (+ 3) c.args.axis
tested c = rw (to_z-of_z c.ranges.axis) at c.is_between.ensures

is_axis : (c : Else-not-is_between) → between (+ 1) (+ 3) c.args.axis ≡ true
is_axis c = sym (tested c.before) ∙ c.if-not-is_between.false

pub returns-then-not-is_between : goal.returns-then-not-is_between
unfolding turn_refused
returns-then-not-is_between c = let out = sym (tested c.before) ∙ c.if-not-is_between.true in rw out

pub returns-then-angle : goal.returns-then-angle
unfolding turn_refused
returns-then-angle c =
    let b = c.before.before.before in
    let held : to_z w64 (of_z w64 b.args.angle) ≡ b.args.angle = to_z-of_z b.ranges.angle in
    let above : lt_z (− circle) b.args.angle ≡ true = rw held at c.if-angle.true in
    rw (held, is_axis c.before, above) (twice_not (lt_z b.args.angle (+ circle)))

pub returns-else-angle : goal.returns-else-angle
unfolding turn_refused
returns-else-angle c =
    let b = c.before.before.before in
    let held : to_z w64 (of_z w64 b.args.angle) ≡ b.args.angle = to_z-of_z b.ranges.angle in
    let below : lt_z (− circle) b.args.angle ≡ false = rw held at c.if-angle.false in
    rw (held, is_axis c.before, below)
