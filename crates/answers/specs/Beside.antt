-- A place and its observed altitude, put together as C gets them, are the rule's answer of the place with its observed
-- altitude.
use Rattle.std.specs.Prelude.{◌≡◌, refl, false, pos, nat_abs, Result, Ok, Err, ℤ}
use Rattle.std.proofs.Common.{ap, arith}
use Rattle.rules.specs.declared.Weather.{Weather}
use Rattle.rules.specs.declared.Place.{Place}
use Rattle.rules.specs.declared.Refusal.{Refusal}
use Rattle.rules.specs.Units.{same}
use Rattle.rules.specs.Refusals.{number, given, refused}
use Rattle.rules.specs.Answers.{angle_answer, place_numbers, placed_answer, observed_answer}
use Rattle.rules.specs.Refraction.{observed_altitude, observed_at, observed_beside}
use Rattle.laws.specs.RefusalNumbers.{number_pos}
use Rattle.laws.specs.Units.{same_of, not_same}
use Rattle.answers.specs.Answers.{placed_out, altitude_out, observed_out, none_observed, beside_out}

not_nought : (r : Refusal) → same (pos (number r)) (pos 0) ≡ false
not_nought r = not_same (pos (number r)) (pos 0) (λ e. omega (arith, number_pos r, ap nat_abs e))

of_place : (p : Place) (a : Result ℤ Refusal)
    → beside_out (placed_out (placed_answer (Ok p))) (altitude_out (angle_answer a))
    ≡ observed_out (observed_answer (observed_at p a))
unfolding beside_out none_observed placed_out altitude_out observed_out place_numbers placed_answer angle_answer observed_answer
    observed_at given refused
of_place p (Ok h) = rw (same_of (pos 0) (pos 0) refl)
of_place p (Err r) = rw (same_of (pos 0) (pos 0) refl, not_nought r)

pub beside_is : (q : Result Place Refusal) (w : Weather)
    → beside_out (placed_out (placed_answer q))
    (altitude_out (angle_answer (observed_altitude w (placed_out (placed_answer q)).altitude)))
    ≡ observed_out (observed_answer (observed_beside q w))
unfolding beside_out none_observed placed_out observed_out place_numbers placed_answer observed_answer observed_beside given
    refused
beside_is (Ok p) w = of_place p (observed_altitude w p.altitude)
beside_is (Err r) w = rw (not_nought r)
