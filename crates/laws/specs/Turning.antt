-- A turn about any axis. What is known of axis 3 and kept by the cyclic exchange is known of each axis: `by_axis`.
-- So an accepted direction stays accepted, the length to be divided by is never nought, and refusal 13 never comes.
use Rattle.std.specs.Prelude.{◌≡◌, Bool, true, false, cond, ℕ, ◌+◌, ◌*◌, ◌≤◌, ℤ}
use Rattle.std.proofs.Common.{ap, arith}
use Rattle.rules.specs.declared.Pair.{Pair}
use Rattle.rules.specs.declared.Direction.{Direction}
use Rattle.rules.specs.Units.{+◌, same}
use Rattle.rules.specs.Length.{square, squares, pair_squares, part_to, root, to_length}
use Rattle.rules.specs.Turning.{Accepted, turn3, exchanged, turn1, turn2, turn_about}
use Rattle.laws.specs.Directions.{minus}
use Rattle.laws.specs.Turn3.{short_turn, long_turn}
use Rattle.laws.specs.Return3.{opposite_pair, farthest}

-- ---- the axis

abbrev pub Turner : Type 0
Turner = Pair → Direction → Direction

-- the same turn about the next axis; axis 1 is next to axis 3
abbrev pub about_next : Turner → Turner
about_next f p v = exchanged (exchanged (f p (exchanged v)))

-- what holds of axis 3, and of the next axis where it holds of one, holds of each
pub by_axis : (P : Turner → Type 0) → P turn3 → ((f : Turner) → P f → P (about_next f)) → (axis : ℤ) → P (turn_about axis)
unfolding turn_about turn1 turn2 exchanged
by_axis P three next axis = by (same axis (+ 1)) (same axis (+ 2))
  where
    by : (b c : Bool) → P (λ p v. cond b (turn1 p v) (cond c (turn2 p v) (turn3 p v)))
    by true c = next turn3 three
    by false true = next (about_next turn3) (next turn3 three)
    by false false = three

-- ---- what the exchange keeps

pub exchanged_squares : (v : Direction) → squares (exchanged v) ≡ squares v
unfolding squares square exchanged
exchanged_squares v = omega arith

pub exchanged_to_length : (v : Direction) → to_length (exchanged v) ≡ exchanged (to_length v)
unfolding to_length exchanged
exchanged_to_length v =
    ap (λ n. record { x = part_to (root n) v.y; y = part_to (root n) v.z; z = part_to (root n) v.x })
    (exchanged_squares v)

pub exchanged_minus : (a b : Direction) → squares (minus (exchanged a) (exchanged b)) ≡ squares (minus a b)
unfolding squares square exchanged
exchanged_minus a b = omega arith

-- ---- what is known of a turn by an accepted pair of an accepted direction

pub record Kept (f : Turner) : Type 0 where
  -- the squares' sum fits, and the length to be divided by is within 5 of 2^30
  pub squares_le : (p : Pair) (v : Direction) → Accepted (pair_squares p) → Accepted (squares v)
      → squares (f p v) ≤ long_turn * long_turn
  pub root_ge : (p : Pair) (v : Direction) → Accepted (pair_squares p) → Accepted (squares v)
      → short_turn ≤ root (squares (f p v))
  -- brought to length it is accepted
  pub accepted : (p : Pair) (v : Direction) → Accepted (pair_squares p) → Accepted (squares v)
      → Accepted (squares (to_length (f p v)))
  -- the opposite turn of what lies within A of it lies within A + 24 of the direction
  pub back : (p : Pair) (v u : Direction) (A : ℕ)
      → Accepted (pair_squares p) → Accepted (squares v) → Accepted (squares u) → A ≤ farthest
      → squares (minus u (to_length (f p v))) ≤ A * A
      → squares (minus (to_length (f (opposite_pair p) u)) v) ≤ (A + 24) * (A + 24)
