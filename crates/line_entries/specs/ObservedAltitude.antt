-- The observed altitude of an entry: what the module answers for it, its size, and how long its column is.
use Rattle.std.specs.Prelude.{◌≡◌, Bool, true, false, cond, suc, ◌^◌, ◌≤◌, pos, nat_abs, ◌+ℤ◌, length}
use Rattle.std.proofs.Common.{arith, lit≤}
use Rattle.std.proofs.Math.IntN.{ℤ}
use Rattle.integers.specs.Difference.{add_is}
use Rattle.integers.specs.Size.{abs_is, abs_le}
use Rattle.rules.specs.declared.Weather.{Weather}
use Rattle.rules.specs.declared.Entry.{Entry}
use Rattle.rules.specs.Units.{quarter}
use Rattle.rules.specs.Times.{decimal}
use Rattle.rules.specs.Floats.{tenths}
use Rattle.rules.specs.NightList.{filled}
use Rattle.rules.specs.Refraction.{lift_at, lift, observed}
use Rattle.laws.specs.Refraction.{Air, lift_at_range, lift_at_nought, lifted_or}
use Rattle.laws.specs.ObservedAltitude.{lift_at_room}
use Rattle.sexagesimal.specs.Sexagesimal.{elevation}
use Rattle.sexagesimal.specs.Widths.{elevation_length}
use Rattle.line_entries.specs.Observed.{observed_of, observed_column}
use Rattle.line_entries.specs.Lengths.{number_le}

-- of an entry with mark 0 or 1 it is the module's, by a record whose floats have these tenths
pub as_the_module : (w : Weather) (e : Entry) → w.has_pressure ≡ true → w.has_temperature ≡ true → filled e ≡ true
    → observed_of (tenths w.pressure) (tenths w.temperature) e ≡ observed w e.angles.altitude
unfolding observed_of observed lift
as_the_module w e hp ht hm = rw (hm, hp, ht)

module _ (p t : ℤ) (air : Air p t) where
  -- the sum fits wherever the altitude does
  pub observed_of_or : (e : Entry) (P : ℤ → Type 0) → P e.angles.altitude → ((z : ℤ) → nat_abs z ≤ 2 ^ 62 → P z)
      → P (e.angles.altitude +ℤ lift_at p t e.angles.altitude)
  observed_of_or e P k m =
      let h = e.angles.altitude in
      lifted_or h (lift_at p t h) P (lift_at_range p t h air) (lift_at_nought p t h) k m

  -- within a quarter where the altitude is
  pub observed_of_within : (e : Entry) → nat_abs e.angles.altitude ≤ quarter → nat_abs (observed_of p t e) ≤ quarter
  unfolding observed_of
  observed_of_within e k = go (filled e)
    where
      h : ℤ
      h = e.angles.altitude

      l : ℤ
      l = lift_at p t h

      go : (b : Bool) → nat_abs (cond b (h +ℤ l) (pos 0)) ≤ quarter
      go true =
          abs_le (h +ℤ l) quarter
          (omega (arith, add_is h l, abs_is l, lift_at_room p t h air k, (lift_at_range p t h air).low))
          (omega (arith, add_is h l, abs_is h, (lift_at_range p t h air).low))
      go false = lit≤ tt

-- ---- the column

pub column_le : (people : Bool) (p t : ℤ) (e : Entry) → nat_abs (observed_of p t e) ≤ 2 ^ 63
    → length (observed_column people p t e) ≤ 21
unfolding observed_column
column_le people p t e h = go people
  where
    z : ℤ
    z = observed_of p t e

    go : (b : Bool) → suc (length (cond b (elevation z) (decimal z))) ≤ 21
    go true = omega (arith, elevation_length z)
    go false = omega (arith, number_le z h)
