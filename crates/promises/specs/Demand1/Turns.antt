-- Demand 1 of turns: `turning::turn` 7, 8; and bringing to length, whose rule alone has 13 (`Thirteen`).
use Rattle.std.specs.Prelude.{◌≡◌, refl, ◌↔◌, Bool, true, false, cond, [], ◌∷◌, ℤ, pos, Ok, Err}
use Rattle.std.proofs.Common.{ap, ◌∙◌}
use Rattle.rules.specs.declared.Direction.{Direction}
use Rattle.rules.specs.declared.Refusal.{Refusal}
use Rattle.rules.specs.Checks.{first}
use Rattle.rules.specs.Refusals.{given, refused}
use Rattle.rules.specs.Answers.{turned_answer}
use Rattle.rules.specs.Length.{to_length, brought_to_length}
use Rattle.rules.specs.Turning.{direction_refused, turn_refused, turn, turned}
use Rattle.laws.specs.Checks.{FirstGiven}
use Rattle.laws.specs.Accepted.{accepted_of_not_refused}
use Rattle.laws.proofs.Turning.{turned_accepted}
use Rattle.promises.specs.Demand1.Checks.{turn_checks, length_checks}
use Rattle.promises.specs.Demand1.InOrder.{first_map, refused_exactly}

-- ---- a turn

refused_7 : (axis angle : ℤ) (v : Direction) → direction_refused v ≡ true
    → turned axis angle v ≡ Err Refusal.Direction
unfolding turned
refused_7 axis angle v p = rw p

refused_8 : (axis angle : ℤ) (v : Direction) → direction_refused v ≡ false → turn_refused axis angle ≡ true
    → turned axis angle v ≡ Err Refusal.Turn
unfolding turned
refused_8 axis angle v p q = rw (p, q)

pub turn_checked : (axis angle : ℤ) (v : Direction)
    → turned axis angle v ≡ first (turn_checks axis angle v) Err (Ok (turn axis angle v))
unfolding first
turn_checked axis angle v = by (direction_refused v) (turn_refused axis angle) refl refl
  where
    by : (a b : Bool) → direction_refused v ≡ a → turn_refused axis angle ≡ b
        → turned axis angle v
        ≡ cond a (Err Refusal.Direction)
        (cond b (Err Refusal.Turn) (Ok (turn axis angle v)))
    by true b p q = refused_7 axis angle v p
    by false true p q = refused_8 axis angle v p q
    by false false p q = turned_accepted axis angle v (accepted_of_not_refused v p) q

pub turn_refused_lem : (axis angle : ℤ) (v : Direction) (r : Refusal)
    → (turned axis angle v ≡ Err r) ↔ FirstGiven (turn_checks axis angle v) r
unfolding turned_answer given refused
turn_refused_lem axis angle v r = rw (turn_checked axis angle v)
    (refused_exactly (λ a. pos (turned_answer a).number) Err _ (λ _. refl) refl (turn_checks axis angle v) r)

pub turn_answer : (axis angle : ℤ) (v : Direction)
    → turned_answer (turned axis angle v)
    ≡ first (turn_checks axis angle v) (λ r. refused r 3)
    (given ((turn axis angle v).x ∷ (turn axis angle v).y ∷ (turn axis angle v).z ∷ []))
unfolding turned_answer
turn_answer axis angle v = ap turned_answer (turn_checked axis angle v)
    ∙ first_map turned_answer (turn_checks axis angle v) Err _

-- ---- bringing to length

pub length_checked : (v : Direction)
    → brought_to_length v ≡ first (length_checks v) Err (Ok (to_length v))
unfolding brought_to_length first
length_checked v = refl

pub length_refused_lem : (v : Direction) (r : Refusal)
    → (brought_to_length v ≡ Err r) ↔ FirstGiven (length_checks v) r
unfolding turned_answer given refused
length_refused_lem v r = rw (length_checked v)
    (refused_exactly (λ a. pos (turned_answer a).number) Err _ (λ _. refl) refl (length_checks v) r)

pub length_answer : (v : Direction)
    → turned_answer (brought_to_length v)
    ≡ first (length_checks v) (λ r. refused r 3) (given ((to_length v).x ∷ (to_length v).y ∷ (to_length v).z ∷ []))
unfolding turned_answer
length_answer v = ap turned_answer (length_checked v) ∙ first_map turned_answer (length_checks v) Err _
