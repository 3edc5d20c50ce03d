-- Demand 3: of an accepted direction and a list of up to 1,000 accepted turns, no turn refuses, every length is kept,
-- and the opposite turns in reverse order lead back. A turn is `turned` of the rules, with its refusals; of calls of
-- the functions, `Demand3OfCalls` has it.
use Rattle.std.specs.Prelude.{List, ◌++◌, ℕ, ◌*◌, ◌≤◌, length, take, Ok}
use Rattle.std.proofs.Common.{le_trans, arith}
use Rattle.rules.specs.declared.Direction.{Direction}
use Rattle.rules.specs.Length.{squares}
use Rattle.rules.specs.Turning.{Accepted}
use Rattle.rules.specs.Chain.{Turn, AcceptedTurns, way_back, turned_by, Answers, Within}
use Rattle.laws.specs.WayBack.{append_accepted, take_accepted, way_back_accepted}
use Rattle.laws.proofs.WayBack.{turned_by_accepted, way_back_near}

-- of a direction v and a list of turns
pub record Demand3 (v : Direction) (ts : List Turn) : Type 0 where
  -- after every turn out, and then after every one of the way back, the answer is a direction, no refusal,
  -- and its squared length is within 2^32 of 2^60
  pub kept : (k : ℕ)
      → Answers (λ w. Accepted (squares w)) (turned_by (take k (ts ++ way_back ts)) (Ok v))
  -- after the last one each component is within 32 times the number of turns of where it began
  pub back : Answers (λ w. Within (32 * length ts) w v) (turned_by (ts ++ way_back ts) (Ok v))

pub demand3 : (v : Direction) → Accepted (squares v) → (ts : List Turn) → AcceptedTurns ts → length ts ≤ 1000
    → Demand3 v ts
demand3 v h ts ks l =
    let n = way_back_near ts ks (omega arith) v h in
    let more : 24 * length ts ≤ 32 * length ts = omega arith in
    record {
      kept = λ k. turned_by_accepted (take k (ts ++ way_back ts))
          (take_accepted k (ts ++ way_back ts) (append_accepted ts ks (way_back_accepted ts ks))) v h;
      back = record {
        direction = n.direction;
        answer = n.answer;
        holds = record {
          x = le_trans n.holds.x more;
          y = le_trans n.holds.y more;
          z = le_trans n.holds.z more;
        };
      };
    }
