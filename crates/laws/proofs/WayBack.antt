-- Lists of turns: every turn of an accepted direction is answered and accepted, and the opposite turns in reverse order
-- lead back to where the direction began.
use Rattle.std.specs.Prelude.{◌≡◌, refl, suc, ◌+◌, ◌*◌, ◌≤◌, length, neg_ℤ, Ok, ℤ}
use Rattle.std.proofs.Common.{sym, ap, ◌∙◌, subst, arith}
use mathlib.Core.List.{List, [], ◌∷◌, ◌++◌}
use Rattle.integers.specs.Square.{square_le_of_le}
use Rattle.rules.specs.declared.Direction.{Direction}
use Rattle.rules.specs.Units.{+◌}
use Rattle.rules.specs.Length.{squares}
use Rattle.rules.specs.Turning.{Accepted, turn}
use Rattle.rules.specs.Chain.{Turn, AcceptedTurns, none, more, opposite, way_back, turned_by}
use Rattle.rules.specs.Chain.{Answers, Within}
use Rattle.laws.specs.Directions.{minus, parts_le}
use Rattle.laws.proofs.Turning.{turn_accepted, turned_accepted, turn_back}
use Rattle.laws.specs.WayBack.{append_accepted, way_back_accepted, way_back_cons, turns, turns_append, at_nought_lem, most_turns}

turns_accepted : (ts : List Turn) (v : Direction) → Accepted (squares v) → Accepted (squares (turns ts v))
turns_accepted [] v h = h
turns_accepted (t ∷ ts) v h = turns_accepted ts (turn t.axis t.angle v) (turn_accepted t.axis t.angle v h)

turned_by_is : (ts : List Turn) → AcceptedTurns ts → (v : Direction) → Accepted (squares v)
    → turned_by ts (Ok v) ≡ Ok (turns ts v)
turned_by_is [] none v h = refl
turned_by_is (t ∷ ts) (more k ks) v h =
    ap (turned_by ts) (turned_accepted t.axis t.angle v h k)
    ∙ turned_by_is ts ks (turn t.axis t.angle v) (turn_accepted t.axis t.angle v h)

-- no turn of a list is refused, and what the last one answers is accepted
pub turned_by_accepted : (ts : List Turn) → AcceptedTurns ts → (v : Direction) → Accepted (squares v)
    → Answers (λ w. Accepted (squares w)) (turned_by ts (Ok v))
turned_by_accepted ts ks v h =
    record { direction = turns ts v; answer = turned_by_is ts ks v h; holds = turns_accepted ts v h }

returned_le : (ts : List Turn) → length ts ≤ most_turns → (v : Direction) → Accepted (squares v)
    → squares (minus (turns (way_back ts) (turns ts v)) v) ≤ (24 * length ts) * (24 * length ts)
returned_le [] l v h = at_nought_lem v (24 * 0 * (24 * 0))
returned_le (t ∷ ts) l v h =
    let w = turn t.axis t.angle v in
    let hw = turn_accepted t.axis t.angle v h in
    let m = turns ts w in
    let u = turns (way_back ts) m in
    let hu = turns_accepted (way_back ts) m (turns_accepted ts w hw) in
    let e : turns (way_back (t ∷ ts)) m ≡ turn t.axis (neg_ℤ t.angle) u =
    ap (λ l. turns l m) (way_back_cons t ts) ∙ turns_append (way_back ts) (opposite t ∷ []) m in
    subst (λ r. squares (minus r v) ≤ (24 * suc (length ts)) * (24 * suc (length ts))) (sym e)
    (square_le_of_le (24 * length ts + 24) (24 * suc (length ts))
    (turn_back t.axis t.angle v u (24 * length ts) h hu (omega arith)
    (returned_le ts (omega arith) w hw)) (omega arith))

-- there and back: each component within 24 for each turn
pub way_back_near : (ts : List Turn) → AcceptedTurns ts → length ts ≤ most_turns
    → (v : Direction) → Accepted (squares v)
    → Answers (λ w. Within (24 * length ts) w v) (turned_by (ts ++ way_back ts) (Ok v))
way_back_near ts ks l v h =
    let n = parts_le (minus (turns (way_back ts) (turns ts v)) v) (24 * length ts) (returned_le ts l v h) in
    record {
      direction = turns (way_back ts) (turns ts v);
      answer = turned_by_is (ts ++ way_back ts) (append_accepted ts ks (way_back_accepted ts ks)) v h
          ∙ ap Ok (turns_append ts (way_back ts) v);
      holds = record { x = n.x; y = n.y; z = n.z };
    }
