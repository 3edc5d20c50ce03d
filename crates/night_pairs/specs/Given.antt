-- What the functions are given: conditions on their numbers, cited by `requires`.
use Rattle.std.specs.Prelude.{◌≤◌, ◌^◌, ℤ, nat_abs}
use Rattle.rules.specs.Units.{circle, unit}

-- a number times a part of a pair
pub record ScaledFits (k part : ℤ) : Type 0 where
  pub number_le : nat_abs k ≤ 2 ^ 31
  pub part_le : nat_abs part ≤ unit

-- Δψ, the cosine of ε and a longitude: their sum with a sidereal angle fits
pub record LocalFits (nutation cosine longitude : ℤ) : Type 0 where
  pub nutation_le : nat_abs nutation ≤ 2 ^ 31
  pub cosine_le : nat_abs cosine ≤ unit
  pub longitude_le : nat_abs longitude ≤ circle
