-- Lists of turns, of which demand 3 speaks: each turn takes what the one before it answered, and the way back is the
-- opposite turns in reverse order. Definitions only.
use Rattle.std.specs.Prelude.{◌≡◌, false, List, [], ◌∷◌, map, reverse, ℕ, ◌≤◌, ℤ, neg_ℤ, nat_abs, ◌-ℤ◌, Result, Ok, Err}
use Rattle.rules.specs.Data.{Direction, Refusal}
use Rattle.rules.specs.Turning.{turn_refused, turned}

-- a turn of a list: about an axis, by an angle
pub record Turn : Type 0 where
  pub axis : ℤ
  pub angle : ℤ

-- accepted: not what refusal 8 is given for
abbrev pub AcceptedTurn : Turn → Type 0
AcceptedTurn t = turn_refused t.axis t.angle ≡ false

pub data AcceptedTurns : List Turn → Type 0 where
  none : AcceptedTurns []
  more : {t : Turn} {ts : List Turn} → AcceptedTurn t → AcceptedTurns ts → AcceptedTurns (t ∷ ts)

-- the opposite turn: about the same axis, by minus the angle
abbrev pub opposite : Turn → Turn
opposite t = record { axis = t.axis; angle = neg_ℤ t.angle }

-- "the opposite turns in reverse order"
abbrev pub way_back : List Turn → List Turn
way_back ts = reverse (map opposite ts)

-- a turn of what was answered before it; a refusal stays
abbrev pub turned_next : Turn → Result Direction Refusal → Result Direction Refusal
turned_next t (Ok v) = turned t.axis t.angle v
turned_next t (Err r) = Err r

-- the turns of a list, the first of them first
abbrev pub turned_by : List Turn → Result Direction Refusal → Result Direction Refusal
turned_by [] a = a
turned_by (t ∷ ts) a = turned_by ts (turned_next t a)

-- the answer is a direction, and P holds of it
pub record Answers (P : Direction → Type 0) (a : Result Direction Refusal) : Type 0 where
  pub direction : Direction
  pub answer : a ≡ Ok direction
  pub holds : P direction

-- each component of u is within n of that of v
pub record Within (n : ℕ) (u v : Direction) : Type 0 where
  pub x : nat_abs (u.x -ℤ v.x) ≤ n
  pub y : nat_abs (u.y -ℤ v.y) ≤ n
  pub z : nat_abs (u.z -ℤ v.z) ≤ n
