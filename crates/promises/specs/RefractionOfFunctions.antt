-- Change C-11 of the functions themselves, by their contracts: whatever is passed, the record that is answered has its
-- fields in range and is taken back as it is; an observed altitude is what `RefractionAnswers` says of it; and two calls
-- with one record keep the order of altitudes.
use Rattle.std.specs.Prelude.{◌≡◌, ℤ, pos, ◌+ℤ◌, ◌<ℤ◌, ◌≤ℤ◌, Ok}
use Rattle.std.proofs.Common.{sym, ap, ◌∙◌}
use seplogic.Ra.Ura.{Ura}
use base.Logic.{SProp, ent, id⊢}
use prog.Memory.{Memory}
use prog.Routine.{Routine}
use types.Logic.{Logic}
use contract.Monad.{Fun, conj, fact}
use Rattle.rules.specs.declared.Weather.{Weather}
use Rattle.rules.specs.Units.{+◌}
use Rattle.rules.specs.Weather.{recorded}
use Rattle.rules.specs.Place as places
use Rattle.rules.specs.Refraction.{observed_altitude}
use Rattle.laws.specs.Weather.{FieldsInRange}
use Rattle.stars.specs.Numbers.{star_of}
use Rattle.answers.specs.Given.{moment_of, site_of}
use Rattle.promises.specs.OfContracts.{Tells, so_told, together}
use Rattle.promises.specs.Calls.{Call, told}
use Rattle.promises.specs.Refraction as rules
use Rattle.weather.specs.contracts.kept.take_from as take_from
use Rattle.refraction.specs.contracts.observed.observed_altitude as observed_altitude_lem
use Rattle.module.specs.contracts.probe.turbelicus_observed_altitude as turbelicus_observed_altitude
use Rattle.module.specs.contracts.observed.turbelicus_observed_place as turbelicus_observed_place
use Rattle.promises.specs.RefractionAnswers.{Observes, observes, got_observes, in_order, PlaceObserved, got_place}

module _ {M : Type 1} {𝓤 : Ura M} (𝓛 : Logic 𝓤) (mem : Memory → SProp 𝓤) (run : Routine → Fun 𝓤) where
  -- ---- the record

  pub take_from_in_range : Tells 𝓤 take_from.ended (take_from.clauses 𝓛 mem run)
      (λ κs passed a x. (v : Weather) → a ≡ Ok v → FieldsInRange v × (recorded v ≡ Ok v))
  take_from_in_range κs passed g a x = so_told 𝓤 (id⊢ 𝓤 _) (λ e v f. (
    rules.taken_in_range passed.0 v passed.1.0 (sym e ∙ f),
    rules.taken_back passed.0 v passed.1.0 (sym e ∙ f),
  ))

  -- ---- the observed altitude

  pub observed_altitude_observes : Tells 𝓤 observed_altitude_lem.ended (observed_altitude_lem.clauses 𝓛 mem run)
      (λ κs passed a x. (b : ℤ) → a ≡ Ok b → Observes passed.0 b)
  observed_altitude_observes κs passed g a x =
      so_told 𝓤 (id⊢ 𝓤 _)
      (λ e b f. observes passed.1.0 passed.0 b (sym e ∙ f))

  pub turbelicus_observed_altitude_observes : Tells 𝓤 turbelicus_observed_altitude.ended
      (turbelicus_observed_altitude.clauses 𝓛 mem run)
      (λ κs passed a x. a.refused ≡ pos 0 → Observes passed.0 a.altitude)
  turbelicus_observed_altitude_observes κs passed g a x =
      so_told 𝓤 (id⊢ 𝓤 _)
      (λ e. rw e (got_observes _ passed.0))

  -- the place in its ranges, that of the same star, and what observes its altitude
  pub turbelicus_observed_place_observes : Tells 𝓤 turbelicus_observed_place.ended
      (turbelicus_observed_place.clauses 𝓛 mem run)
      (λ κs date a x.
      let time = date.1.1.1 in
      let site = time.1.1.1.1.1 in
      let star = site.1.1 in
      a.refused ≡ pos 0 → PlaceObserved (places.place
      (moment_of date.0 date.1.0 date.1.1.0
      time.0 time.1.0 time.1.1.0 time.1.1.1.0 time.1.1.1.1.0)
      (star_of star.0 star.1.0 star.1.1.0 star.1.1.1.0)
      (site_of site.0 site.1.0)) a)
  turbelicus_observed_place_observes κs passed g a x =
      so_told 𝓤 (id⊢ 𝓤 _)
      (λ e. rw e (got_place _ _ _ _))

  -- ---- two calls with one record

  abbrev pub Observing : Type 0
  Observing = Call 𝓤 observed_altitude_lem.ended (observed_altitude_lem.clauses 𝓛 mem run)

  abbrev pub observing_told : Observing → SProp 𝓤
  observing_told = told 𝓤 observed_altitude_lem.ended (observed_altitude_lem.clauses 𝓛 mem run)

  pub order_of_calls : (lower higher : Observing) (a b : ℤ)
      → lower.passed.1.0 ≡ higher.passed.1.0 → lower.answer ≡ Ok a → higher.answer ≡ Ok b
      → (lower.passed.0 +ℤ + 119) ≤ℤ higher.passed.0
      → ent 𝓤 (conj 𝓤 (observing_told lower) (observing_told higher)) (fact 𝓤 (a <ℤ b))
  order_of_calls lower higher a b same e f l = together 𝓤 (id⊢ 𝓤 _) (id⊢ 𝓤 _) (λ p q.
      in_order lower.passed.1.0 lower.passed.0 higher.passed.0 a b (sym p ∙ e)
      (ap (λ w. observed_altitude w higher.passed.0) same ∙ sym q ∙ f) l)
