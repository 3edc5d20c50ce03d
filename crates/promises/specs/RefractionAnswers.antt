-- Change C-11 of the answers: an observed altitude that is answered, alone or beside a place, lies within a quarter where
-- the true one does, is never below it, and keeps the order of altitudes at least 119 µas apart.
use Rattle.std.specs.Prelude.{◌≡◌, refl, ℕ, ◌≤◌, ℤ, pos, nat_abs, ◌+ℤ◌, ◌<ℤ◌, ◌≤ℤ◌, Result, Ok, Err}
use Rattle.std.proofs.Common.{sym, ap, subst, ◌∙◌, arith}
use Rattle.rules.specs.declared.Moment.{Moment}
use Rattle.rules.specs.declared.Star.{Star}
use Rattle.rules.specs.declared.Site.{Site}
use Rattle.rules.specs.declared.Place.{Place}
use Rattle.rules.specs.declared.Weather.{Weather}
use Rattle.rules.specs.declared.Refusal.{Refusal}
use Rattle.rules.specs.declared.Observed.{Observed}
use Rattle.rules.specs.Refusals.{given, refused}
use Rattle.rules.specs.Answers.{angle_answer, place_numbers, observed_answer}
use Rattle.rules.specs.Units.{quarter, +◌}
use Rattle.rules.specs.Weather.{recorded}
use Rattle.rules.specs.Place as places
use Rattle.rules.specs.Refraction.{observed, observed_in, observed_altitude, observed_at, observed_beside, observed_place}
use Rattle.laws.specs.RefusalNumbers.{number_pos}
use Rattle.laws.specs.ObservedAltitude as altitudes
use Rattle.answers.specs.declared.observed.TurbelicusObserved.{TurbelicusObserved}
use Rattle.laws.specs.PlaceAnswers.{read_of, read_again}
use Rattle.answers.specs.Answers.{altitude_out, observed_out}
use Rattle.promises.specs.Demand1.Weather.{place_untouched}
use Rattle.promises.specs.Demand2 as demand2
use Rattle.promises.specs.Refraction as rules
use Rattle.rules.specs.Refraction.{observed_with}

-- ---- what is answered is observed by a record in range

record SeenBy (w : Weather) (h a : ℤ) : Type 0 where
  by : Weather
  kept : recorded w ≡ Ok by
  is : a ≡ observed by h

refused_apart : (r : Refusal) (a : ℤ) → Err r ≡ Ok a → ⊥
refused_apart r a e = let z : ◌≡◌ {A = ℕ} 0 1 = cc in omega arith

seen_by : (w : Weather) (h a : ℤ) → observed_altitude w h ≡ Ok a → SeenBy w h a
unfolding observed_altitude observed_in
seen_by w h a e = of (recorded w) refl e
  where
    of : (b : Result Weather Weather) → recorded w ≡ b → observed_in b h ≡ Ok a → SeenBy w h a
    of (Ok v) k q = record { by = v; kept = k; is = let z : observed v h ≡ a = cc in sym z }
    of (Err v) k q = absurd (refused_apart Refusal.Reading a q)

-- within a quarter where the true altitude is, and never below it
pub record Observes (h a : ℤ) : Type 0 where
  pub within : nat_abs h ≤ quarter → nat_abs a ≤ quarter
  pub above : h ≤ℤ a

pub observes : (w : Weather) (h a : ℤ) → observed_altitude w h ≡ Ok a → Observes h a
observes w h a e =
    let s = seen_by w h a e in
    let f = rules.handed_in_range w s.by s.kept in
    subst (Observes h) (sym s.is) (record {
      within = λ k. altitudes.observed_within s.by h f k;
      above = rules.observed_above s.by h f;
    })

-- in the struct that C gets, where `refused` is 0
pub got_observes : (w : Weather) (h : ℤ)
    → let a = altitude_out (angle_answer (observed_altitude w h)) in a.refused ≡ pos 0 → Observes h a.altitude
unfolding altitude_out angle_answer given refused
got_observes w h = by (observed_altitude w h) refl
  where
    by : (b : Result ℤ Refusal) → observed_altitude w h ≡ b
        → (altitude_out (angle_answer b)).refused ≡ pos 0 → Observes h (altitude_out (angle_answer b)).altitude
    by (Ok z) e k = observes w h z e
    by (Err r) e k = absurd (omega (arith, number_pos r, ap nat_abs k))

-- the record decides the one by which both are seen
pub in_order : (w : Weather) (h k a b : ℤ) → observed_altitude w h ≡ Ok a → observed_altitude w k ≡ Ok b
    → (h +ℤ + 119) ≤ℤ k → a <ℤ b
in_order w h k a b e i l =
    let s = seen_by w h a e in
    let t = seen_by w k b i in
    let same : Ok t.by ≡ Ok s.by = sym t.kept ∙ s.kept in
    let v : t.by ≡ s.by = cc in
    rw (s.is, t.is, v) (rules.order_kept s.by h k (rules.handed_in_range w s.by s.kept) l)

-- ---- the place's altitude

beside_observes : (a : Result Place Refusal) (w : Weather) (p : Place) (h : ℤ) → observed_beside a w ≡ Ok (observed_with p h)
    → observed_altitude w p.altitude ≡ Ok h
unfolding observed_beside observed_at
beside_observes (Err r) w p h e = absurd (let z : ◌≡◌ {A = ℕ} 0 1 = cc in omega arith)
beside_observes (Ok q) w p h e = at (observed_altitude w q.altitude) refl e
  where
    at : (b : Result ℤ Refusal) → observed_altitude w q.altitude ≡ b → observed_at q b ≡ Ok (observed_with p h)
        → observed_altitude w p.altitude ≡ Ok h
    at (Ok z) k i =
        let both : observed_with q z ≡ observed_with p h = cc in
        let s = ap (λ (o : Observed). o.place) both in
        let t = ap (λ (o : Observed). o.altitude) both in
        subst (λ r. observed_altitude w r.altitude ≡ Ok h) s (k ∙ ap Ok t)
    at (Err r) k i = absurd (let z : ◌≡◌ {A = ℕ} 0 1 = cc in omega arith)

-- the place in the struct that C gets
abbrev pub place_seen : TurbelicusObserved → Place
place_seen a = record {
  ra = read_of a.has_ra a.ra;
  declination = a.declination;
  azimuth = read_of a.has_azimuth a.azimuth;
  altitude = a.altitude;
}

seen_again : (p : Place) (h : ℤ) → place_seen (observed_out (observed_answer (Ok (observed_with p h)))) ≡ p
unfolding observed_out observed_answer place_numbers given
seen_again p h = rw (read_again p.ra, read_again p.azimuth)

-- that of q, in its ranges, with the observed altitude beside it
pub record PlaceObserved (q : Result Place Refusal) (a : TurbelicusObserved) : Type 0 where
  pub own : q ≡ Ok (place_seen a)
  pub in_range_lem : demand2.PlaceInRange (place_seen a)
  pub observes : Observes a.altitude a.observed_altitude

place_beside : (m : Moment) (star : Star) (site : Site) (w : Weather) (b : Result Observed Refusal) → observed_place m star site w ≡ b
    → observed_beside (places.place m star site) w ≡ b
unfolding observed_place
place_beside m star site w b e = e

pub got_place : (m : Moment) (star : Star) (site : Site) (w : Weather)
    → let a = observed_out (observed_answer (observed_place m star site w)) in
    a.refused ≡ pos 0 → PlaceObserved (places.place m star site) a
unfolding observed_out observed_answer place_numbers given refused
got_place m star site w = by (observed_place m star site w) refl
  where
    by : (b : Result Observed Refusal) → observed_place m star site w ≡ b → (observed_out (observed_answer b)).refused ≡ pos 0
        → PlaceObserved (places.place m star site) (observed_out (observed_answer b))
    by (Ok i) e k =
        let p = i.place in
        let h = i.altitude in
        let own = place_untouched m star site w p h e in
        let beside = place_beside m star site w (Ok i) e in
        record {
          own = own ∙ ap Ok (sym (seen_again p h));
          in_range_lem = subst demand2.PlaceInRange (sym (seen_again p h)) (demand2.place_in_range m star site p own);
          observes = observes w p.altitude h (beside_observes (places.place m star site) w p h beside);
        }
    by (Err r) e k = absurd (omega (arith, number_pos r, ap nat_abs k))
