-- Demand 1 at the boundary to C, of the weather (C-11): a struct is a refusal's number and noughts, or 14 and the record
-- as it was, exactly when that refusal is the first of the checks that is given; and the rule's answer exactly when none
-- is.
use Rattle.std.specs.Prelude.{◌≡◌, refl, ◌↔◌, Bool, true, false, not, cond, ℤ, pos, nat_abs, Float, Result, Ok, Err}
use Rattle.std.proofs.Common.{ap, ◌∙◌, arith}
use Rattle.rules.specs.declared.Moment.{Moment}
use Rattle.rules.specs.declared.Star.{Star}
use Rattle.rules.specs.declared.Site.{Site}
use Rattle.rules.specs.declared.Place.{Place}
use Rattle.rules.specs.declared.Reading.{Reading}
use Rattle.rules.specs.declared.Weather.{Weather}
use Rattle.rules.specs.declared.Refusal.{Refusal}
use Rattle.rules.specs.Units.{same, +◌}
use Rattle.rules.specs.Checks.{first}
use Rattle.rules.specs.Refusals.{number, given, refused}
use Rattle.rules.specs.Answers.{or_nought, flag, angle_answer, weathered_number, weathered_record}
use Rattle.rules.specs.Place.{place_in}
use Rattle.rules.specs.Weather.{is_pressure, is_temperature, is_accepted, in_range, with_reading, mended, taken_from}
use Rattle.rules.specs.Refraction.{observed, observed_altitude}
use Rattle.laws.specs.Checks.{FirstGiven, NoneGiven}
use Rattle.answers.specs.declared.probe.TurbelicusWeathered.{TurbelicusWeathered}
use Rattle.answers.specs.declared.observed.TurbelicusAltitude.{TurbelicusAltitude}
use Rattle.answers.specs.declared.observed.TurbelicusObserved.{TurbelicusObserved}
use Rattle.answers.specs.Given.{taken_by_kind}
use Rattle.answers.specs.Answers.{record_out, weathered_out, altitude_out}
use Rattle.promises.specs.Demand1.Checks.{record_checks, kind_checks}
use Rattle.promises.specs.Demand1.InOrder.{first_map, refused_exactly, answered_exactly}
use Rattle.promises.specs.Demand1.InOrder.{alike_exactly, alike_answered}
use Rattle.promises.specs.Demand1.Places.{ready_night}
use Rattle.promises.specs.Demand1.Weather.{weather_checked, altitude_answer}

-- ---- turbelicus_weather

-- 14 and the record as it was, or 0 and the record with the reading
abbrev pub weather_refused : Weather → TurbelicusWeathered
weather_refused w = record_out (pos (number Refusal.Reading)) w

abbrev pub weather_given : Weather → TurbelicusWeathered
weather_given w = record_out (pos 0) w

-- the reading of a kind that is one
abbrev pub reading_of : ℤ → Float → Reading
reading_of kind x =
    cond (same kind (+ 0)) Reading.Nothing (cond (same kind (+ 1)) (Reading.Pressure x) (Reading.Temperature x))

kind_checked : (w : Weather) (kind : ℤ) (x : Float)
    → taken_by_kind w kind x
    ≡ first (kind_checks w kind x) (λ _. Err w) (Ok (with_reading (mended w) (reading_of kind x)))
unfolding taken_by_kind first is_accepted
kind_checked w kind x = by (same kind (+ 0)) (same kind (+ 1)) (same kind (+ 2))
  where
    either : (b : Bool) → ◌≡◌ {A = Result Weather Weather} (Err w) (cond b (Err w) (Err w))
    either true = refl
    either false = refl

    by : (a b c : Bool)
        → cond a (taken_from w Reading.Nothing) (cond b (taken_from w (Reading.Pressure x))
        (cond c (taken_from w (Reading.Temperature x)) (Err w)))
        ≡ cond (not (in_range (mended w))) (Err w)
        (cond (cond a false (cond b (not (is_pressure x)) (cond c (not (is_temperature x)) true))) (Err w)
        (Ok (with_reading (mended w)
        (cond a Reading.Nothing (cond b (Reading.Pressure x) (Reading.Temperature x))))))
    by true b c = weather_checked w Reading.Nothing
    by false true c = weather_checked w (Reading.Pressure x)
    by false false true = weather_checked w (Reading.Temperature x)
    by false false false = either (not (in_range (mended w)))

turbelicus_weather_checked : (w : Weather) (kind : ℤ) (x : Float)
    → weathered_out (taken_by_kind w kind x)
    ≡ first (kind_checks w kind x) (λ _. weather_refused w) (weather_given (with_reading (mended w) (reading_of kind x)))
unfolding weathered_out weathered_number weathered_record
turbelicus_weather_checked w kind x = ap weathered_out (kind_checked w kind x)
    ∙ first_map weathered_out (kind_checks w kind x) (λ _. Err w) _

apart : (w v : Weather) → weather_refused w ≡ weather_given v → ⊥
unfolding record_out number
apart w v e = omega (arith, ap (λ a. nat_abs a.refused) e)

pub turbelicus_weather_refused : (w : Weather) (kind : ℤ) (x : Float)
    → (weathered_out (taken_by_kind w kind x) ≡ weather_refused w) ↔ FirstGiven (kind_checks w kind x) Refusal.Reading
turbelicus_weather_refused w kind x = rw (turbelicus_weather_checked w kind x)
    (alike_exactly (weather_refused w) _ (apart w _) Refusal.Reading (kind_checks w kind x) (refl, (refl, tt)))

pub turbelicus_weather_given : (w : Weather) (kind : ℤ) (x : Float)
    → (weathered_out (taken_by_kind w kind x) ≡ weather_given (with_reading (mended w) (reading_of kind x)))
    ↔ NoneGiven (kind_checks w kind x)
turbelicus_weather_given w kind x = rw (turbelicus_weather_checked w kind x)
    (alike_answered (weather_refused w) _ (apart w _) Refusal.Reading (kind_checks w kind x))

-- ---- turbelicus_observed_altitude

abbrev pub altitude_refused : Refusal → TurbelicusAltitude
altitude_refused r = record { refused = pos (number r); altitude = pos 0 }

abbrev pub altitude_given : ℤ → TurbelicusAltitude
altitude_given h = record { refused = pos 0; altitude = h }

turbelicus_observed_altitude_checked : (w : Weather) (h : ℤ)
    → altitude_out (angle_answer (observed_altitude w h))
    ≡ first (record_checks w) altitude_refused (altitude_given (observed (mended w) h))
unfolding altitude_out given refused
turbelicus_observed_altitude_checked w h = ap altitude_out (altitude_answer w h)
    ∙ first_map altitude_out (record_checks w) (λ r. refused r 1) _

pub turbelicus_observed_altitude_refused : (w : Weather) (h : ℤ) (r : Refusal)
    → (altitude_out (angle_answer (observed_altitude w h)) ≡ altitude_refused r) ↔ FirstGiven (record_checks w) r
turbelicus_observed_altitude_refused w h r = rw (turbelicus_observed_altitude_checked w h)
    (refused_exactly (λ a. a.refused) altitude_refused _ (λ _. refl) refl (record_checks w) r)

pub turbelicus_observed_altitude_given : (w : Weather) (h : ℤ)
    → (altitude_out (angle_answer (observed_altitude w h)) ≡ altitude_given (observed (mended w) h))
    ↔ NoneGiven (record_checks w)
turbelicus_observed_altitude_given w h = rw (turbelicus_observed_altitude_checked w h)
    (answered_exactly (λ a. a.refused) altitude_refused _ (λ _. refl) refl (record_checks w))

-- ---- turbelicus_observed_place

abbrev pub observed_refused : Refusal → TurbelicusObserved
observed_refused r = record {
  refused = pos (number r);
  ra = pos 0;
  declination = pos 0;
  azimuth = pos 0;
  altitude = pos 0;
  observed_altitude = pos 0;
  has_ra = pos 0;
  has_azimuth = pos 0;
}

abbrev pub observed_given : Place → ℤ → TurbelicusObserved
observed_given p h = record {
  refused = pos 0;
  ra = or_nought p.ra;
  declination = p.declination;
  azimuth = or_nought p.azimuth;
  altitude = p.altitude;
  observed_altitude = h;
  has_ra = flag p.ra;
  has_azimuth = flag p.azimuth;
}

-- where nothing is refused
abbrev pub observed_given_at : Moment → Star → Site → Weather → TurbelicusObserved
observed_given_at m star site w =
    let p = place_in (ready_night m site) star in
    observed_given p (observed (mended w) p.altitude)
