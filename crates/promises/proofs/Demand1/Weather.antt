-- Demand 1 of the weather (C-11): `weather::kept::take_from` and `refraction::observed::observed_altitude` 14; the
-- place with its observed altitude, which C calls, 1 to 6, then 14. A refused reading leaves the record as it was.
use Rattle.std.specs.Prelude.{◌≡◌, refl, ◌↔◌, pos, Ok, Err}
use Rattle.std.proofs.Common.{ap, ◌∙◌, arith}
use Rattle.rules.specs.declared.Moment.{Moment}
use Rattle.rules.specs.declared.Star.{Star}
use Rattle.rules.specs.declared.Site.{Site}
use Rattle.rules.specs.declared.Place.{Place}
use Rattle.rules.specs.declared.Weather.{Weather}
use Rattle.rules.specs.declared.Refusal.{Refusal}
use Rattle.rules.specs.declared.Observed.{Observed}
use Rattle.rules.specs.Checks.{first}
use Rattle.rules.specs.Refusals.{number, given, refused}
use Rattle.rules.specs.Answers.{place_numbers, observed_answer}
use Rattle.rules.specs.Place.{place_in}
use Rattle.rules.specs.Weather.{mended}
use Rattle.rules.specs.Refraction.{observed, observed_altitude, observed_at, observed_beside, observed_place}
use Rattle.laws.specs.Checks.{FirstGiven, NoneGiven}
use Rattle.promises.specs.Demand1.Checks.{place_checks, record_checks, observed_checks}
use Rattle.promises.specs.Demand1.InOrder.{first_map, refused_exactly, given_after}
use Rattle.promises.specs.Demand1.Places.{ready_night, place_checked}
use Rattle.promises.specs.Demand1.Weather.{altitude_checked, observed_ready, seven_numbers}
use Rattle.rules.specs.Refraction.{observed_with}

beside_checked : (p : Place) (w : Weather)
    → observed_at p (observed_altitude w p.altitude)
    ≡ first (record_checks w) Err (Ok (observed_with p (observed (mended w) p.altitude)))
unfolding observed_at
beside_checked p w = ap (observed_at p) (altitude_checked w p.altitude)
    ∙ first_map (observed_at p) (record_checks w) Err _

pub observed_place_checked : (m : Moment) (star : Star) (site : Site) (w : Weather)
    → observed_place m star site w
    ≡ first (observed_checks m star site w) Err (observed_ready m star site w)
unfolding observed_place observed_beside first
observed_place_checked m star site w =
    ap (λ a. observed_beside a w) (place_checked m star site)
    ∙ first_map (λ a. observed_beside a w) (place_checks m star site) Err
    (Ok (place_in (ready_night m site) star))
    ∙ ap (first (place_checks m star site) Err) (beside_checked (place_in (ready_night m site) star) w)

pub observed_place_refused : (m : Moment) (star : Star) (site : Site) (w : Weather) (r : Refusal)
    → (observed_place m star site w ≡ Err r) ↔ FirstGiven (observed_checks m star site w) r
unfolding observed_answer given refused
observed_place_refused m star site w r = rw (observed_place_checked m star site w)
    (refused_exactly (λ a. pos (observed_answer a).number) Err _ (λ _. refl) refl
    (observed_checks m star site w) r)

pub observed_place_answer : (m : Moment) (star : Star) (site : Site) (w : Weather)
    → observed_answer (observed_place m star site w)
    ≡ first (observed_checks m star site w) (λ r. refused r 7)
    (given (seven_numbers (place_in (ready_night m site) star) w))
unfolding observed_answer place_numbers
observed_place_answer m star site w = ap observed_answer (observed_place_checked m star site w)
    ∙ first_map observed_answer (observed_checks m star site w) Err _

-- "14, .., after all others": only where none of the place's own is given
pub fourteen_last : (m : Moment) (star : Star) (site : Site) (w : Weather)
    → observed_place m star site w ≡ Err Refusal.Reading
    → NoneGiven (place_checks m star site)
unfolding number
fourteen_last m star site w e = (given_after 6 (place_checks m star site) (record_checks w) Refusal.Reading
    (omega arith, (omega arith, (omega arith, (omega arith, (omega arith, (omega arith, tt)))))) (omega arith)
    ((observed_place_refused m star site w Refusal.Reading).0 e)).0
