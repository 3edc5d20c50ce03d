-- A turn about any axis: an accepted direction stays accepted, the length to be divided by is never nought, refusal 13
-- never comes, and the opposite turn leads back.
use Rattle.std.specs.Prelude.{◌≡◌, false, ℕ, ◌+◌, ◌*◌, ◌≤◌, ◌<◌, ◌^◌, ℤ, neg_ℤ, Ok}
use Rattle.std.proofs.Common.{sym, ap, ◌∙◌, arith}
use Rattle.std.proofs.Math.Path.{subst}
use borrow.Author.Tests.{ne_eqb}
use Rattle.rules.specs.declared.Pair.{Pair}
use Rattle.rules.specs.declared.Direction.{Direction}
use Rattle.rules.specs.Units.{+◌}
use Rattle.rules.specs.Length.{squares, pair_squares, root, to_length, length_refused, brought_to_length}
use Rattle.rules.specs.Turning.{Accepted, turn3, exchanged, turn_about, turn_by, turn, turn_refused, turned}
use Rattle.rules.specs.Circle.{pair}
use Rattle.laws.specs.Root.{root_le}
use Rattle.laws.specs.Directions.{minus}
use Rattle.laws.specs.Accepted.{accepted_not_refused}
use Rattle.laws.specs.Angles.{pair_length, pair_opposite}
use Rattle.laws.specs.Turn3.{long_turn, turn3_le, turn3_root_ge}
use Rattle.laws.proofs.Turn3.{turn3_accepted}
use Rattle.laws.specs.Return3.{opposite_pair, farthest}
use Rattle.laws.proofs.Return3.{turn3_back}
use Rattle.laws.specs.Turning.{Turner, about_next, by_axis, exchanged_squares, exchanged_to_length, exchanged_minus, Kept}

kept3 : Kept turn3
kept3 = record { squares_le = turn3_le; root_ge = turn3_root_ge; accepted = turn3_accepted; back = turn3_back }

module _ (f : Turner) (k : Kept f) where
  exchanged_accepted : (v : Direction) → Accepted (squares v) → Accepted (squares (exchanged v))
  exchanged_accepted v h = rw (exchanged_squares v) h

  next_squares : (p : Pair) (v : Direction) → squares (about_next f p v) ≡ squares (f p (exchanged v))
  next_squares p v =
      let w = f p (exchanged v) in
      exchanged_squares (exchanged w) ∙ exchanged_squares w

  next_to_length : (p : Pair) (v : Direction)
      → to_length (about_next f p v) ≡ exchanged (exchanged (to_length (f p (exchanged v))))
  next_to_length p v =
      let w = f p (exchanged v) in
      exchanged_to_length (exchanged w) ∙ ap exchanged (exchanged_to_length w)

  next_back : (p : Pair) (v u : Direction) (A : ℕ)
      → Accepted (pair_squares p) → Accepted (squares v) → Accepted (squares u) → A ≤ farthest
      → squares (minus u (to_length (about_next f p v))) ≤ A * A
      → squares (minus (to_length (about_next f (opposite_pair p) u)) v) ≤ (A + 24) * (A + 24)
  unfolding exchanged
  next_back p v u A hp hv hu small near =
      let w = to_length (f p (exchanged v)) in
      let r = to_length (f (opposite_pair p) (exchanged u)) in
      let near_w : squares (minus u (exchanged (exchanged w))) ≤ A * A =
      subst (λ d. squares (minus u d) ≤ A * A) (next_to_length p v) near in
      subst (λ d. squares (minus d v) ≤ (A + 24) * (A + 24)) (sym (next_to_length (opposite_pair p) u))
      (subst (λ n. n ≤ (A + 24) * (A + 24)) (exchanged_minus (exchanged (exchanged r)) v)
      (k.back p (exchanged v) (exchanged u) A hp (exchanged_accepted v hv) (exchanged_accepted u hu) small
      (subst (λ n. n ≤ A * A) (sym (exchanged_minus u (exchanged (exchanged w)))) near_w)))

  next_kept : Kept (about_next f)
  next_kept = record {
    squares_le = λ p v hp hv. rw (next_squares p v) (k.squares_le p (exchanged v) hp (exchanged_accepted v hv));
    root_ge = λ p v hp hv. rw (next_squares p v) (k.root_ge p (exchanged v) hp (exchanged_accepted v hv));
    accepted = λ p v hp hv. rw (next_to_length p v, exchanged_squares, exchanged_squares)
        (k.accepted p (exchanged v) hp (exchanged_accepted v hv));
    back = next_back;
  }

pub kept : (axis : ℤ) → Kept (turn_about axis)
kept axis = by_axis Kept kept3 next_kept axis

module _ (axis : ℤ) (p : Pair) (v : Direction) (hp : Accepted (pair_squares p)) (hv : Accepted (squares v)) where
  pub turn_about_fits : squares (turn_about axis p v) < 2 ^ 61
  turn_about_fits = omega (arith, (kept axis).squares_le p v hp hv)

  pub turn_about_root_le : root (squares (turn_about axis p v)) ≤ long_turn
  turn_about_root_le = root_le (squares (turn_about axis p v)) long_turn (omega (arith, turn_about_fits))
      ((kept axis).squares_le p v hp hv)

  -- the length to be divided by is never nought
  pub turn_about_root_pos : 0 < root (squares (turn_about axis p v))
  turn_about_root_pos = omega (arith, (kept axis).root_ge p v hp hv)

  pub turn_about_not_refused : length_refused (turn_about axis p v) ≡ false
  unfolding length_refused
  turn_about_not_refused = ne_eqb (root (squares (turn_about axis p v))) 0 (λ e. omega (arith, turn_about_root_pos))

  pub turn_by_accepted : Accepted (squares (turn_by axis p v))
  unfolding turn_by
  turn_by_accepted = (kept axis).accepted p v hp hv

-- ---- by the angle's own pair

pub turn_accepted : (axis angle : ℤ) (v : Direction) → Accepted (squares v) → Accepted (squares (turn axis angle v))
unfolding turn
turn_accepted axis angle v h = turn_by_accepted axis (pair angle) v (pair_length angle) h

-- an accepted turn of an accepted direction is answered
pub turned_accepted : (axis angle : ℤ) (v : Direction) → Accepted (squares v) → turn_refused axis angle ≡ false
    → turned axis angle v ≡ Ok (turn axis angle v)
unfolding turned turn turn_by brought_to_length
turned_accepted axis angle v h e =
    rw (accepted_not_refused v h, e, turn_about_not_refused axis (pair angle) v (pair_length angle) h)

-- the opposite turn of what lies within A of the turned direction lies within A + 24 of the direction
pub turn_back : (axis angle : ℤ) (v u : Direction) (A : ℕ) → Accepted (squares v) → Accepted (squares u) → A ≤ farthest
    → squares (minus u (turn axis angle v)) ≤ A * A
    → squares (minus (turn axis (neg_ℤ angle) u) v) ≤ (A + 24) * (A + 24)
unfolding turn turn_by
turn_back axis angle v u A hv hu small near =
    rw (pair_opposite angle) ((kept axis).back (pair angle) v u A (pair_length angle) hv hu small near)
