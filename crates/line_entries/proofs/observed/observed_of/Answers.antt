-- `line_entries::observed::observed_of` meets its contract: the sum fits as the altitude does.
use Rattle.std.proofs.Common.{◌≡◌, sym, ◌∙◌, arith, ℤ, SFits, to_z, of_z, to_z-of_z, rules}
use Rattle.std.specs.Int.{w64}
use Rattle.words.specs.Fits.{fits64, held64}
use Rattle.rules.specs.Refraction.{lift_at}
use Rattle.line_entries.specs.declared.air.Air.{Air}
use Rattle.line_entries.specs.Observed.{observed_of}
use Rattle.line_entries.specs.ObservedAltitude.{observed_of_or}
use Rattle.line_entries.proofs.observed.observed_of.Goals.{After-lift_at}
use Rattle.line_entries.proofs.observed.observed_of.Goals as goal

module _ (c : After-lift_at) where
  abbrev h : ℤ
  h = c.args.entry.angles.altitude

  abbrev air : Air
  air = c.air.inside.air

  altitude_fits : SFits w64 h
  altitude_fits = search rules

  pressure_fits : SFits w64 air.pressure
  pressure_fits = search rules

  temperature_fits : SFits w64 air.temperature
  temperature_fits = search rules

  lift_is : to_z w64 (of_z w64 c.lift_at.result) ≡ lift_at air.pressure air.temperature h
  lift_is =
      held64 c.lift_at.result c.lift_at.type_inv
      ∙ rw (to_z-of_z altitude_fits, to_z-of_z pressure_fits, to_z-of_z temperature_fits) at c.lift_at.ensures

pub overflow_add-result : goal.overflow_add-result
overflow_add-result c =
    let a = air c in
    rw (to_z-of_z (altitude_fits c), lift_is c)
    (observed_of_or a.pressure a.temperature c.air.invariant c.args.entry (SFits w64) (altitude_fits c) (λ z k. fits64 z (omega arith)))

pub returns-then-is_filled : goal.returns-then-is_filled
unfolding observed_of
returns-then-is_filled c =
    rw (← c.air.view_is)
    (to_z-of_z (overflow_add-result c)
    ∙ rw (
      to_z-of_z (altitude_fits c),
      lift_is c,
      sym c.is_filled.ensures ∙ c.if-is_filled.true,
    ))

pub returns : goal.returns
unfolding observed_of
returns c = rw (sym c.is_filled.ensures ∙ c.if-is_filled.false)
