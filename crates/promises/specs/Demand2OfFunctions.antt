-- Demand 2 of the functions themselves, by their contracts: whatever is passed, each sine and cosine that is answered
-- lies within 4 parts in 2^30 of its series, each polynomial within 2 µas of its exact value, a reading reads what it
-- was given, and a place lies in its ranges.
use Rattle.std.specs.Prelude.{◌≡◌, refl, ◌*◌, ◌≤◌, ℤ, pos, nat_abs, ◌-ℤ◌, ◌*ℤ◌, Result, Ok, Err, Option, Some, None}
use Rattle.std.proofs.Common.{sym, ap, subst, ◌∙◌, arith}
use seplogic.Ra.Ura.{Ura}
use base.Logic.{SProp, id⊢}
use prog.Memory.{Memory}
use prog.Routine.{Routine}
use types.Logic.{Logic}
use contract.Monad.{Fun}
use Rattle.rules.specs.declared.Pair.{Pair}
use Rattle.rules.specs.declared.Place.{Place}
use Rattle.rules.specs.declared.Precession.{Precession}
use Rattle.rules.specs.declared.Arguments.{Arguments}
use Rattle.rules.specs.declared.Nutation.{Nutation}
use Rattle.rules.specs.declared.Moment.{Moment}
use Rattle.rules.specs.declared.Star.{Star}
use Rattle.rules.specs.declared.Site.{Site}
use Rattle.rules.specs.Refusals.{given, refused}
use Rattle.rules.specs.Answers.{has_angle, or_nought, flag, read_answer, place_numbers, placed_answer}
use Rattle.rules.specs.Units.{unit}
use Rattle.rules.specs.Series.{whole, radian, series}
use Rattle.rules.specs.Precession.{obliquity_row}
use Rattle.rules.specs.Sun.{perihelion_row}
use Rattle.rules.specs.Reading.{reading, Reads}
use Rattle.rules.specs.Place as places
use Rattle.laws.proofs.Reading as readings
use Rattle.laws.specs.RefusalNumbers.{number_pos}
use Rattle.answers.specs.Answers.{placed_out, read_out}
use Rattle.laws.specs.PlaceAnswers.{read_of, read_again}
use Rattle.answers.specs.declared.places.TurbelicusPlaced.{TurbelicusPlaced}
use Rattle.promises.specs.OfContracts.{Tells, so_told}
use Rattle.promises.specs.Demand2.{Within2, cosine_within_4, sine_within_4, PlaceInRange}
use Rattle.promises.specs.Demand2 as demand2
use Rattle.promises.specs.Demand2Answers as within
use Rattle.circle.specs.contracts.pair as pair
use Rattle.precession.specs.contracts.precession as precession
use Rattle.precession.specs.contracts.obliquity as obliquity
use Rattle.arguments.specs.contracts.arguments as arguments
use Rattle.nutation.specs.contracts.nutation as nutation
use Rattle.sun.specs.contracts.sun_longitude as sun_longitude_lem
use Rattle.sun.specs.contracts.perihelion.perihelion as perihelion
use Rattle.sidereal.specs.contracts.sidereal as sidereal
use Rattle.reading.specs.contracts.reading as reading
use Rattle.place.specs.contracts.place as place
use Rattle.module.specs.contracts.turns.turbelicus_reading as turbelicus_reading
use Rattle.module.specs.contracts.places.turbelicus_place as turbelicus_place
use Rattle.rules.specs.declared.Refusal.{Refusal}

-- p is within 4 parts in 2^30 of the series at an angle, both sides times the series' denominator
pub record PairWithin4 (angle : ℤ) (p : Pair) : Type 0 where
  pub cosine : nat_abs (p.cosine *ℤ pos (whole radian) -ℤ pos unit *ℤ (series angle).cosine) ≤ 4 * whole radian
  pub sine : nat_abs (p.sine *ℤ pos (whole radian) -ℤ pos unit *ℤ (series angle).sine) ≤ 4 * whole radian

-- the place in the struct that C gets: an angle where its flag is 1
abbrev pub place_got : TurbelicusPlaced → Place
place_got a = record {
  ra = read_of a.has_ra a.ra;
  declination = a.declination;
  azimuth = read_of a.has_azimuth a.azimuth;
  altitude = a.altitude;
}

pub got_again : (p : Place) → place_got (placed_out (placed_answer (Ok p))) ≡ p
unfolding placed_out placed_answer place_numbers given
got_again p = rw (read_again p.ra, read_again p.azimuth)

got_in_range : (m : Moment) (star : Star) (site : Site)
    → let a = placed_out (placed_answer (places.place m star site)) in a.refused ≡ pos 0 → PlaceInRange (place_got a)
unfolding placed_out placed_answer given refused
got_in_range m star site = by (places.place m star site) refl
  where
    by : (p : Result Place Refusal) → places.place m star site ≡ p
        → (placed_out (placed_answer p)).refused ≡ pos 0 → PlaceInRange (place_got (placed_out (placed_answer p)))
    by (Ok p) e z = subst PlaceInRange (sym (got_again p)) (demand2.place_in_range m star site p e)
    by (Err r) e z = absurd (omega (arith, number_pos r, ap nat_abs z))

-- where the flag is 1, the number is the angle
got_reads : (h v : ℤ) → let a = read_out (read_answer (reading h v)) in a.has_angle ≡ pos 1 → Reads h v a.angle
unfolding read_out read_answer has_angle or_nought flag given
got_reads h v = by (reading h v) refl
  where
    by : (r : Option ℤ) → reading h v ≡ r
        → (read_out (read_answer r)).has_angle ≡ pos 1 → Reads h v (read_out (read_answer r)).angle
    by (Some b) e k = readings.reading_reads h v b e
    by None e k = absurd (omega (arith, ap nat_abs k))

module _ {M : Type 1} {𝓤 : Ura M} (𝓛 : Logic 𝓤) (mem : Memory → SProp 𝓤) (run : Routine → Fun 𝓤) where
  -- ---- sine and cosine

  pub pair_within_4 : Tells 𝓤 pair.ended (pair.clauses 𝓛 mem run) (λ κs passed a x. PairWithin4 passed.0 a)
  pair_within_4 κs passed g a x = so_told 𝓤 (id⊢ 𝓤 _)
      (λ e. rw e (record { cosine = cosine_within_4 passed.0; sine = sine_within_4 passed.0 }))

  -- ---- angles at an instant

  pub precession_within_2 : Tells 𝓤 precession.ended (precession.clauses 𝓛 mem run)
      (λ κs passed a x. (p : Precession) → a ≡ Ok p → within.PrecessionWithin2 passed.0 p)
  precession_within_2 κs passed g a x = so_told 𝓤 (id⊢ 𝓤 _)
      (λ e p by.
      let n = within.precession_polynomials passed.0 p (sym e ∙ by) in
      record { zeta = n.0; z = n.1; theta = n.2 })

  pub obliquity_within_2 : Tells 𝓤 obliquity.ended (obliquity.clauses 𝓛 mem run)
      (λ κs passed a x. (b : ℤ) → a ≡ Ok b → Within2 b obliquity_row passed.0.0)
  obliquity_within_2 κs passed g a x = so_told 𝓤 (id⊢ 𝓤 _)
      (λ e b of. within.obliquity_within_2 passed.0 b (sym e ∙ of))

  pub arguments_within_2 : Tells 𝓤 arguments.ended (arguments.clauses 𝓛 mem run)
      (λ κs passed a x. (b : Arguments) → a ≡ Ok b → within.ArgumentsWithin2 passed.0 b)
  arguments_within_2 κs passed g a x = so_told 𝓤 (id⊢ 𝓤 _)
      (λ e b by. within.arguments_within_2 passed.0 b (sym e ∙ by))

  pub sun_longitude_within_2 : Tells 𝓤 sun_longitude_lem.ended (sun_longitude_lem.clauses 𝓛 mem run)
      (λ κs passed a x. (b : ℤ) → a ≡ Ok b → within.SunWithin2 passed.0 b)
  sun_longitude_within_2 κs passed g a x = so_told 𝓤 (id⊢ 𝓤 _)
      (λ e b of. within.sun_within_2 passed.0 b (sym e ∙ of))

  pub perihelion_within_2 : Tells 𝓤 perihelion.ended (perihelion.clauses 𝓛 mem run)
      (λ κs passed a x. (b : ℤ) → a ≡ Ok b → Within2 b perihelion_row passed.0.0)
  perihelion_within_2 κs passed g a x = so_told 𝓤 (id⊢ 𝓤 _)
      (λ e b of. within.perihelion_within_2 passed.0 b (sym e ∙ of))

  pub sidereal_within_2 : Tells 𝓤 sidereal.ended (sidereal.clauses 𝓛 mem run)
      (λ κs passed a x. (b : ℤ) → a ≡ Ok b → within.SiderealWithin2 passed.0 b)
  sidereal_within_2 κs passed g a x = so_told 𝓤 (id⊢ 𝓤 _)
      (λ e b of. within.sidereal_within_2 passed.0 b (sym e ∙ of))

  pub nutation_within_2 : Tells 𝓤 nutation.ended (nutation.clauses 𝓛 mem run)
      (λ κs passed a x. (n : Nutation) → a ≡ Ok n → within.NutationWithin2 passed.0 n)
  nutation_within_2 κs passed g a x = so_told 𝓤 (id⊢ 𝓤 _)
      (λ e n by. within.nutation_within_2 passed.0 n (sym e ∙ by))

  -- ---- readings, of all that have an angle

  pub reading_reads : Tells 𝓤 reading.ended (reading.clauses 𝓛 mem run)
      (λ κs passed a x. (b : ℤ) → a ≡ Some b → Reads passed.0 passed.1.0 b)
  reading_reads κs passed g a x = so_told 𝓤 (id⊢ 𝓤 _)
      (λ e b k. readings.reading_reads passed.0 passed.1.0 b (sym e ∙ k))

  pub turbelicus_reading_reads : Tells 𝓤 turbelicus_reading.ended (turbelicus_reading.clauses 𝓛 mem run)
      (λ κs passed a x. a.has_angle ≡ pos 1 → Reads passed.0 passed.1.0 a.angle)
  turbelicus_reading_reads κs passed g a x =
      so_told 𝓤 (id⊢ 𝓤 _)
      (λ e. rw e (got_reads passed.0 passed.1.0))

  -- ---- places

  pub place_in_range : Tells 𝓤 place.ended (place.clauses 𝓛 mem run)
      (λ κs passed a x. (p : Place) → a ≡ Ok p → PlaceInRange p)
  place_in_range κs passed g a x = so_told 𝓤 (id⊢ 𝓤 _)
      (λ e p at. demand2.place_in_range passed.0 passed.1.0 passed.1.1.0 p (sym e ∙ at))

  -- where `refused` is 0
  pub turbelicus_place_in_range : Tells 𝓤 turbelicus_place.ended (turbelicus_place.clauses 𝓛 mem run)
      (λ κs passed a x. a.refused ≡ pos 0 → PlaceInRange (place_got a))
  turbelicus_place_in_range κs passed g a x =
      so_told 𝓤 (id⊢ 𝓤 _)
      (λ e. rw e (got_in_range _ _ _))
