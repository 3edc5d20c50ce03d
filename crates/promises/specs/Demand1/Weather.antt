-- Demand 1 of the weather (C-11): `weather::kept::take_from` and `refraction::observed::observed_altitude` 14; the
-- place with its observed altitude, which C calls, 1 to 6, then 14. A refused reading leaves the record as it was.
use Rattle.std.specs.Prelude.{◌≡◌, refl, ◌↔◌, Bool, true, false, not, cond, List, [], ◌∷◌, ◌++◌, ℕ, ℤ, pos, Result, Ok, Err}
use Rattle.std.proofs.Common.{sym, ap, ◌∙◌, arith}
use Rattle.rules.specs.declared.Moment.{Moment}
use Rattle.rules.specs.declared.Star.{Star}
use Rattle.rules.specs.declared.Site.{Site}
use Rattle.rules.specs.declared.Place.{Place}
use Rattle.rules.specs.declared.Reading.{Reading}
use Rattle.rules.specs.declared.Weather.{Weather}
use Rattle.rules.specs.declared.Refusal.{Refusal}
use Rattle.rules.specs.declared.Observed.{Observed}
use Rattle.rules.specs.Checks.{first}
use Rattle.rules.specs.Refusals.{number, given, refused}
use Rattle.rules.specs.Answers.{angle_answer, weathered_number, weathered_record}
use Rattle.rules.specs.Place.{place_in, place}
use Rattle.rules.specs.Weather.{is_accepted, in_range, with_reading, taken, mended, recorded, stays, taken_in, taken_from}
use Rattle.rules.specs.Refraction.{observed, observed_in, observed_altitude, observed_at, observed_beside, observed_place}
use Rattle.laws.specs.Checks.{FirstGiven}
use Rattle.promises.specs.Demand1.Checks.{record_checks, reading_checks}
use Rattle.promises.specs.Demand1.InOrder.{first_map, refused_exactly, alike_exactly}
use Rattle.promises.specs.Demand1.Places.{ready_night, six_numbers}
use Rattle.rules.specs.Refraction.{observed_with}

-- ---- a reading taken into a record that C kept

-- the two tests, of the record and of the reading
by_tests : (w m n : Weather) (r : Reading) (b c : Bool) → is_accepted r ≡ c → with_reading m r ≡ n
    → taken_in w (cond b (Ok m) (Err w)) r
    ≡ cond (not b) (Err w) (cond (not c) (Err w) (Ok n))
unfolding taken_in stays taken
by_tests w m n r true true e f = rw (e, f)
by_tests w m n r true false e f = rw e
by_tests w m n r false c e f = refl

pub weather_checked : (w : Weather) (r : Reading)
    → taken_from w r ≡ first (reading_checks w r) (λ _. Err w) (Ok (with_reading (mended w) r))
unfolding taken_from recorded first
weather_checked w r = by_tests w (mended w) (with_reading (mended w) r) r (in_range (mended w)) (is_accepted r) refl refl

not_now : (w v : Weather) → Err w ≡ Ok v → ⊥
unfolding weathered_number number
not_now w v e = omega (arith, ap weathered_number e)

-- 14 exactly when the record or the reading is not accepted
pub weather_refused_lem : (w : Weather) (r : Reading)
    → (taken_from w r ≡ Err w) ↔ FirstGiven (reading_checks w r) Refusal.Reading
weather_refused_lem w r = rw (weather_checked w r)
    (alike_exactly (Err w) (Ok (with_reading (mended w) r)) (not_now w _) Refusal.Reading
    (reading_checks w r) (refl, (refl, tt)))

-- "the record stays": whatever record a refusal gives back is the one that came
pub weather_stays : (w v : Weather) (r : Reading) → taken_from w r ≡ Err v → v ≡ w
unfolding weathered_record first
weather_stays w v r e = by (not (in_range (mended w))) (not (is_accepted r)) (sym (weather_checked w r) ∙ e)
  where
    by : (b c : Bool)
        → cond b (Err w) (cond c (Err w) (Ok (with_reading (mended w) r)))
        ≡ Err v → v ≡ w
    by true c h = sym (ap weathered_record h)
    by false true h = sym (ap weathered_record h)
    by false false h = absurd (not_now v _ (sym h))

-- ---- the observed altitude

pub altitude_checked : (w : Weather) (h : ℤ)
    → observed_altitude w h ≡ first (record_checks w) Err (Ok (observed (mended w) h))
unfolding observed_altitude observed_in recorded first
altitude_checked w h = by (in_range (mended w))
  where
    by : (b : Bool) → observed_in (cond b (Ok (mended w)) (Err w)) h
        ≡ cond (not b) (Err Refusal.Reading) (Ok (observed (mended w) h))
    by true = refl
    by false = refl

pub altitude_refused_lem : (w : Weather) (h : ℤ) (r : Refusal)
    → (observed_altitude w h ≡ Err r) ↔ FirstGiven (record_checks w) r
unfolding angle_answer given refused
altitude_refused_lem w h r = rw (altitude_checked w h)
    (refused_exactly (λ a. pos (angle_answer a).number) Err _ (λ _. refl) refl (record_checks w) r)

pub altitude_answer : (w : Weather) (h : ℤ)
    → angle_answer (observed_altitude w h)
    ≡ first (record_checks w) (λ r. refused r 1) (given (observed (mended w) h ∷ []))
unfolding angle_answer
altitude_answer w h = ap angle_answer (altitude_checked w h) ∙ first_map angle_answer (record_checks w) Err _

-- ---- the place with it

-- the place that is answered where nothing is refused, with its observed altitude
abbrev pub observed_ready : Moment → Star → Site → Weather → Result Observed Refusal
observed_ready m star site w =
    let p = place_in (ready_night m site) star in
    Ok (observed_with p (observed (mended w) p.altitude))

-- the numbers of the place, and the observed altitude
abbrev pub seven_numbers : Place → Weather → List ℤ
seven_numbers p w = six_numbers p ++ (observed (mended w) p.altitude ∷ [])

-- "the true altitude": the place beside it is the place's own
pub place_untouched : (m : Moment) (star : Star) (site : Site) (w : Weather) (p : Place) (h : ℤ)
    → observed_place m star site w ≡ Ok (observed_with p h) → place m star site ≡ Ok p
unfolding observed_place observed_beside observed_at
place_untouched m star site w p h e = by (place m star site) e
  where
    apart : (r : Refusal) (q : Place) (k : ℤ) → Err r ≡ Ok (observed_with q k) → ⊥
    apart r q k e = let z : ◌≡◌ {A = ℕ} 0 1 = cc in omega arith

    at : (q : Place) (a : Result ℤ Refusal) → observed_at q a ≡ Ok (observed_with p h) → q ≡ p
    at q (Ok k) e =
        let both : observed_with q k ≡ observed_with p h = cc in
        ap (λ (o : Observed). o.place) both
    at q (Err r) e = absurd (apart r p h e)

    by : (a : Result Place Refusal) → observed_beside a w ≡ Ok (observed_with p h) → a ≡ Ok p
    by (Ok q) e = ap Ok (at q (observed_altitude w q.altitude) e)
    by (Err r) e = absurd (apart r p h e)
