-- What the six steps are given: conditions on their numbers, cited by `requires`.
use Rattle.std.specs.Prelude.{◌+◌, ◌≤◌, ◌^◌, ℤ, nat_abs}
use Rattle.rules.specs.Units.{unit}
use Rattle.rules.specs.declared.Tt.{Tt}
use Rattle.laws.specs.Instant.{InRange}

-- an angle and its motion: the sum fits
pub record MotionFits (t : Tt) (angle motion : ℤ) : Type 0 where
  pub instant : InRange t.0
  pub angle_le : nat_abs angle ≤ 2 ^ 41
  pub motion_le : nat_abs motion ≤ 2 ^ 31

-- two angles that may be negated
pub record AnglesFit (ra declination : ℤ) : Type 0 where
  pub ra_le : nat_abs ra ≤ 2 ^ 60
  pub declination_le : nat_abs declination ≤ 2 ^ 60

-- two parts of an accepted direction, or their opposites
pub record PartsFit (h v : ℤ) : Type 0 where
  pub h_le : nat_abs h ≤ unit + 1
  pub v_le : nat_abs v ≤ unit + 1
