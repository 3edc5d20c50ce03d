-- Change C-12 of the functions themselves, by their contracts: whatever is passed, an angle is missing exactly where
-- `NoAngle` says, and what C gets has the flag 1, or 0 with nought beside it.
use Rattle.std.specs.Prelude.{◌≡◌, refl, ◌⊎◌, ◌↔◌, ℤ, pos, nat_abs, Result, Ok, Err, Option, Some, None}
use Rattle.std.proofs.Common.{sym, ap, ◌∙◌, inl, inr, arith}
use seplogic.Ra.Ura.{Ura}
use base.Logic.{SProp, id⊢}
use prog.Memory.{Memory}
use prog.Routine.{Routine}
use types.Logic.{Logic}
use contract.Monad.{Fun}
use Rattle.rules.specs.declared.Ut.{Ut}
use Rattle.rules.specs.declared.Tt.{Tt}
use Rattle.rules.specs.declared.Moment.{Moment}
use Rattle.rules.specs.declared.Star.{Star}
use Rattle.rules.specs.declared.Site.{Site}
use Rattle.rules.specs.declared.Place.{Place}
use Rattle.rules.specs.declared.Weather.{Weather}
use Rattle.rules.specs.declared.Instants.{Instants}
use Rattle.rules.specs.declared.Observed.{Observed}
use Rattle.rules.specs.Units.{quarter}
use Rattle.rules.specs.Refusals.{given, refused}
use Rattle.rules.specs.Answers.{has_angle, or_nought, flag, read_answer, place_numbers, placed_answer, observed_answer}
use Rattle.rules.specs.Dates.{instants}
use Rattle.rules.specs.Reading as readings
use Rattle.rules.specs.Night.{night}
use Rattle.rules.specs.Place as places
use Rattle.rules.specs.Refraction.{observed_place}
use Rattle.laws.specs.RefusalNumbers.{number_pos}
use Rattle.laws.specs.NoAngle.{some_is_not_none}
use Rattle.answers.specs.declared.turns.TurbelicusRead.{TurbelicusRead}
use Rattle.answers.specs.declared.places.TurbelicusPlaced.{TurbelicusPlaced}
use Rattle.answers.specs.declared.observed.TurbelicusObserved.{TurbelicusObserved}
use Rattle.answers.specs.Answers.{read_out, placed_out, observed_out}
use Rattle.promises.specs.OfContracts.{Tells, so_told}
use Rattle.promises.specs.Demand1.Weather.{place_untouched}
use Rattle.promises.specs.NoAngle.{AxesTold, HeightsTold, place_axes, two_heights}
use Rattle.promises.specs.NoAngle as rules
use Rattle.reading.specs.contracts.reading as reading
use Rattle.place.specs.contracts.place as place
use Rattle.module.specs.contracts.turns.turbelicus_reading as turbelicus_reading
use Rattle.module.specs.contracts.places.turbelicus_place as turbelicus_place
use Rattle.module.specs.contracts.observed.turbelicus_observed_place as turbelicus_observed_place
use Rattle.rules.specs.declared.Refusal.{Refusal}
use Rattle.rules.specs.Dates.{ut_and_tt}
use Rattle.rules.specs.Refraction.{observed_with}

-- ---- flags

-- 1, or 0 with nought beside it
abbrev pub Flagged : ℤ → ℤ → Type 0
Flagged has a = (has ≡ pos 1) ⊎ ((has ≡ pos 0) × (a ≡ pos 0))

flagged : (r : Option ℤ) → Flagged (flag r) (or_nought r)
unfolding has_angle or_nought flag
flagged (Some a) = inl refl
flagged None = inr (refl, refl)

flag_of_none : (r : Option ℤ) → flag r ≡ pos 0 ↔ r ≡ None
unfolding has_angle flag
flag_of_none (Some a) = (λ e. absurd (omega (arith, ap nat_abs e)), λ e. some_is_not_none a e)
flag_of_none None = (λ e. refl, λ e. refl)

through : {A B C : Type 0} → A ↔ B → B ↔ C → A ↔ C
through f g = (λ a. g.0 (f.0 a), λ c. f.1 (g.1 c))

-- ---- what C gets of a reading

pub record ReadTold (h v : ℤ) (a : TurbelicusRead) : Type 0 where
  pub flagged : Flagged a.has_angle a.angle
  pub none : a.has_angle ≡ pos 0 ↔ (h ≡ pos 0) × (v ≡ pos 0)

got_read : (h v : ℤ) → ReadTold h v (read_out (read_answer (readings.reading h v)))
unfolding read_out read_answer given
got_read h v =
    let r = readings.reading h v in
    record { flagged = flagged r; none = through (flag_of_none r) (rules.no_angle_exactly h v) }

-- ---- and of a place that is not refused

pub record PlaceTold (has_ra ra declination has_azimuth azimuth altitude : ℤ) : Type 0 where
  pub ra_flagged : Flagged has_ra ra
  pub azimuth_flagged : Flagged has_azimuth azimuth
  pub no_ra : has_ra ≡ pos 0 ↔ nat_abs declination ≡ quarter
  pub no_azimuth : has_azimuth ≡ pos 0 ↔ nat_abs altitude ≡ quarter

told_of : (p : Place)
    → (p.ra ≡ None ↔ nat_abs p.declination ≡ quarter)
    × (p.azimuth ≡ None ↔ nat_abs p.altitude ≡ quarter)
    → PlaceTold (flag p.ra) (or_nought p.ra) p.declination
    (flag p.azimuth) (or_nought p.azimuth) p.altitude
told_of p h = record {
  ra_flagged = flagged p.ra;
  azimuth_flagged = flagged p.azimuth;
  no_ra = through (flag_of_none p.ra) h.0;
  no_azimuth = through (flag_of_none p.azimuth) h.1;
}

abbrev pub GotPlaceTold : TurbelicusPlaced → Type 0
GotPlaceTold a = PlaceTold a.has_ra a.ra a.declination a.has_azimuth a.azimuth a.altitude

abbrev pub GotObservedTold : TurbelicusObserved → Type 0
GotObservedTold a = PlaceTold a.has_ra a.ra a.declination a.has_azimuth a.azimuth a.altitude

got_place : (m : Moment) (star : Star) (site : Site)
    → let a = placed_out (placed_answer (places.place m star site)) in a.refused ≡ pos 0 → GotPlaceTold a
unfolding placed_out placed_answer place_numbers given refused
got_place m star site = by (places.place m star site) refl
  where
    by : (q : Result Place Refusal) → places.place m star site ≡ q
        → (placed_out (placed_answer q)).refused ≡ pos 0 → GotPlaceTold (placed_out (placed_answer q))
    by (Ok p) e z = told_of p (two_heights m star site p e)
    by (Err r) e z = absurd (omega (arith, number_pos r, ap nat_abs z))

got_observed : (m : Moment) (star : Star) (site : Site) (w : Weather)
    → let a = observed_out (observed_answer (observed_place m star site w)) in a.refused ≡ pos 0 → GotObservedTold a
unfolding observed_out observed_answer place_numbers given refused
got_observed m star site w = by (observed_place m star site w) refl
  where
    by : (b : Result Observed Refusal) → observed_place m star site w ≡ b
        → (observed_out (observed_answer b)).refused ≡ pos 0 → GotObservedTold (observed_out (observed_answer b))
    by (Ok i) e z =
        told_of i.place (two_heights m star site i.place (place_untouched m star site w i.place i.altitude e))
    by (Err r) e z = absurd (omega (arith, number_pos r, ap nat_abs z))

-- ---- the functions

module _ {M : Type 1} {𝓤 : Ura M} (𝓛 : Logic 𝓤) (mem : Memory → SProp 𝓤) (run : Routine → Fun 𝓤) where
  pub reading_no_angle : Tells 𝓤 reading.ended (reading.clauses 𝓛 mem run)
      (λ κs passed a x. a ≡ None ↔ (passed.0 ≡ pos 0) × (passed.1.0 ≡ pos 0))
  reading_no_angle κs passed g a x = so_told 𝓤 (id⊢ 𝓤 _)
      (λ e. rw e (rules.no_angle_exactly passed.0 passed.1.0))

  pub turbelicus_reading_told : Tells 𝓤 turbelicus_reading.ended (turbelicus_reading.clauses 𝓛 mem run)
      (λ κs passed a x. ReadTold passed.0 passed.1.0 a)
  turbelicus_reading_told κs passed g a x =
      so_told 𝓤 (id⊢ 𝓤 _)
      (λ e. rw e (got_read passed.0 passed.1.0))

  -- by the directions of the night, and by the heights
  pub place_told : Tells 𝓤 place.ended (place.clauses 𝓛 mem run)
      (λ κs passed a x. (ut : Ut) (tt : Tt) (p : Place) → instants passed.0 ≡ Ok (ut_and_tt ut tt) → a ≡ Ok p
      → AxesTold (night ut tt passed.1.1.0) passed.1.0 p × HeightsTold p)
  place_told κs passed g a x = so_told 𝓤 (id⊢ 𝓤 _) (λ e ut tt p at f.
      let h = two_heights passed.0 passed.1.0 passed.1.1.0 p (sym e ∙ f) in (
        place_axes passed.0 passed.1.0 passed.1.1.0 ut tt p at (sym e ∙ f),
        record { ra = h.0; azimuth = h.1 },
      ))

  -- where `refused` is 0
  pub turbelicus_place_told : Tells 𝓤 turbelicus_place.ended (turbelicus_place.clauses 𝓛 mem run)
      (λ κs passed a x. a.refused ≡ pos 0 → GotPlaceTold a)
  turbelicus_place_told κs passed g a x =
      so_told 𝓤 (id⊢ 𝓤 _)
      (λ e. rw e (got_place _ _ _))

  pub turbelicus_observed_place_told : Tells 𝓤 turbelicus_observed_place.ended
      (turbelicus_observed_place.clauses 𝓛 mem run) (λ κs passed a x. a.refused ≡ pos 0 → GotObservedTold a)
  turbelicus_observed_place_told κs passed g a x =
      so_told 𝓤 (id⊢ 𝓤 _)
      (λ e. rw e (got_observed _ _ _ _))
