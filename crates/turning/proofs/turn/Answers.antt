-- `turning::turn` meets its contract: each test is that of its refusal, and an accepted turn is never refused.
use mathlib.Core.Path.{◌≡◌, sym, ap, ◌∙◌}
use mathlib.Core.Bool.{Bool, true, false, not}
use mir.Facts.{to_z-of_z}
use Rattle.rules.specs.Length.{squares}
use Rattle.rules.specs.Circle.{pair}
use Rattle.rules.specs.Turning.{Accepted, direction_refused, turn_refused, turn, turned}
use Rattle.laws.specs.Angles.{pair_length}
use Rattle.laws.specs.Accepted.{accepted_of_not_refused}
use Rattle.laws.proofs.Turning.{turned_accepted}
use Rattle.words.specs.Tests.{not_taken, not_left}
use Rattle.turning.proofs.turn.Goals as goal
use Rattle.turning.proofs.turn.Goals.{After-pair, Else-not-accepted, Else-not-is_turn, Start, Then-not-accepted, Then-not-is_turn}
use Rattle.turning.proofs.turn.Lts as lts
use Rattle.turning.proofs.turn.Tie as tie
use Rattle.turning.proofs.turn.Reads as reads
use Rattle.std.specs.Prelude.{Ok}

-- ---- refusals 7 and 8

refused_7 : (c : Then-not-accepted) → direction_refused c.args.v ≡ true
refused_7 c = not_left _ (sym c.accepted.ensures ∙ c.if-not-accepted.true)

not_7 : (c : Else-not-accepted) → direction_refused c.args.v ≡ false
not_7 c = not_taken _ (sym c.accepted.ensures ∙ c.if-not-accepted.false)

is_accepted_lem : (c : Else-not-accepted) → Accepted (squares c.args.v)
is_accepted_lem c = accepted_of_not_refused c.args.v (not_7 c)

abbrev turn_test : Start → Bool
turn_test c = turn_refused c.args.axis c.args.angle

tested_8 : (c : lts.After-is_turn tie.the-claims reads.Pre reads.Post) → c.is_turn.result ≡ not (turn_test c.before.before.before)
tested_8 c =
    let b = c.before.before.before in
    rw (to_z-of_z b.ranges.axis, to_z-of_z b.ranges.angle) at c.is_turn.ensures

refused_8 : (c : Then-not-is_turn) → turn_test c.before.before.before.before ≡ true
refused_8 c = not_left _ (sym (tested_8 c.before) ∙ c.if-not-is_turn.true)

not_8 : (c : Else-not-is_turn) → turn_test c.before.before.before.before ≡ false
not_8 c = not_taken _ (sym (tested_8 c.before) ∙ c.if-not-is_turn.false)

-- ---- the needs

pub returns-then-not-accepted : goal.returns-then-not-accepted
unfolding turned
returns-then-not-accepted c = rw (refused_7 c)

pub returns-then-not-is_turn : goal.returns-then-not-is_turn
unfolding turned
returns-then-not-is_turn c = rw (not_7 c.before.before, refused_8 c)

pair_is : (c : After-pair) → c.pair.result ≡ pair c.args.angle
pair_is c = rw (to_z-of_z c.ranges.angle) at c.pair.ensures

pub turn_by-requires : goal.turn_by-requires
turn_by-requires c =
    let b = c.before.before.before.before.before in
    rw (pair_is c) (record { direction = is_accepted_lem c.before.before.before; pair = pair_length b.args.angle })

pub returns : goal.returns
unfolding turn
returns c =
    let d = c.before.before in
    let b = d.before.before.before.before in
    ap Ok (rw (to_z-of_z b.ranges.axis, pair_is c.before) at c.turn_by.ensures)
    ∙ sym (turned_accepted b.args.axis b.args.angle b.args.v (is_accepted_lem d.before.before) (not_8 d))
