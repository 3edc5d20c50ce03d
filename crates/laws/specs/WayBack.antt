-- Lists of turns: every turn of an accepted direction is answered and accepted, and the opposite turns in reverse order
-- lead back to where the direction began.
use Rattle.std.specs.Prelude.{◌≡◌, refl, Bool, true, false, not, ◌&&◌, ℕ, zero, suc, ◌+◌, ◌≤◌, take, ℤ, pos, neg_ℤ}
use Rattle.std.proofs.Common.{sym, subst, arith}
use mathlib.Core.List.{List, [], ◌∷◌, ◌++◌, map, reverse-cons}
use Rattle.std.proofs.Math.IntN.{+ℤ_invr}
use Rattle.std.specs.Int.Signed.{lt_z}
use Rattle.integers.specs.Difference.{pos_part_neg, neg_part_neg, lt_z_true, lt_z_false}
use Rattle.rules.specs.declared.Direction.{Direction}
use Rattle.rules.specs.Units.{circle, +◌, −◌, between}
use Rattle.rules.specs.Length.{square, squares}
use Rattle.rules.specs.Turning.{turn, turn_refused}
use Rattle.rules.specs.Chain.{Turn, AcceptedTurn, AcceptedTurns, none, more, opposite, way_back}
use Rattle.laws.specs.Directions.{minus}

-- ---- accepted lists

pub append_accepted : (rs : List Turn) {ss : List Turn} → AcceptedTurns rs → AcceptedTurns ss → AcceptedTurns (rs ++ ss)
append_accepted [] none k = k
append_accepted (t ∷ rs) (more h hs) k = more h (append_accepted rs hs k)

pub take_accepted : (k : ℕ) (ts : List Turn) → AcceptedTurns ts → AcceptedTurns (take k ts)
take_accepted zero ts h = none
take_accepted (suc k) [] none = none
take_accepted (suc k) (t ∷ ts) (more h hs) = more h (take_accepted k ts hs)

lt_z_neg : (x y : ℤ) → lt_z (neg_ℤ x) (neg_ℤ y) ≡ lt_z y x
lt_z_neg x y = by (lt_z (neg_ℤ x) (neg_ℤ y)) (lt_z y x) refl refl
  where
    by : (b c : Bool) → lt_z (neg_ℤ x) (neg_ℤ y) ≡ b → lt_z y x ≡ c → b ≡ c
    by true true h k = refl
    by true false h k = absurd (omega (
      arith,
      lt_z_true (neg_ℤ x) (neg_ℤ y) h,
      lt_z_false y x k,
      pos_part_neg x,
      neg_part_neg x,
      pos_part_neg y,
      neg_part_neg y,
    ))
    by false true h k = absurd (omega (
      arith,
      lt_z_false (neg_ℤ x) (neg_ℤ y) h,
      lt_z_true y x k,
      pos_part_neg x,
      neg_part_neg x,
      pos_part_neg y,
      neg_part_neg y,
    ))
    by false false h k = refl

opposite_accepted : (t : Turn) → AcceptedTurn t → AcceptedTurn (opposite t)
unfolding turn_refused
opposite_accepted t h =
    rw (lt_z_neg (pos circle) t.angle, lt_z_neg t.angle (− circle))
    (swap (between (+ 1) (+ 3) t.axis) (lt_z (− circle) t.angle) (lt_z t.angle (+ circle)) h)
  where
    swap : (a b c : Bool) → not (a && (b && c)) ≡ false → not (a && (c && b)) ≡ false
    swap false b c e = e
    swap true true true e = e
    swap true true false e = e
    swap true false true e = e
    swap true false false e = e

pub way_back_cons : (t : Turn) (ts : List Turn) → way_back (t ∷ ts) ≡ way_back ts ++ (opposite t ∷ [])
way_back_cons t ts = reverse-cons (opposite t) (map opposite ts)

pub way_back_accepted : (ts : List Turn) → AcceptedTurns ts → AcceptedTurns (way_back ts)
way_back_accepted [] none = none
way_back_accepted (t ∷ ts) (more h hs) =
    subst AcceptedTurns (sym (way_back_cons t ts))
    (append_accepted (way_back ts) (way_back_accepted ts hs) (more (opposite_accepted t h) none))

-- ---- what the turns of a list make of a direction, where none is refused

abbrev pub turns : List Turn → Direction → Direction
turns [] v = v
turns (t ∷ ts) v = turns ts (turn t.axis t.angle v)

pub turns_append : (rs ss : List Turn) (v : Direction) → turns (rs ++ ss) v ≡ turns ss (turns rs v)
turns_append [] ss v = refl
turns_append (t ∷ rs) ss v = turns_append rs ss (turn t.axis t.angle v)

pub at_nought_lem : (v : Direction) (n : ℕ) → squares (minus v v) ≤ n
unfolding squares square
at_nought_lem v n = rw (+ℤ_invr v.x, +ℤ_invr v.y, +ℤ_invr v.z) (omega arith)

-- so many turns that the distance stays below the farthest from which a turn leads back
abbrev pub most_turns : ℕ
most_turns = 11184811
