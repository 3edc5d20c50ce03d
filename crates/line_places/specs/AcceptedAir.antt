-- The air that is accepted: exactly when, and what the lift needs of it.
use Rattle.std.specs.Prelude.{◌≡◌, true, ◌↔◌, ℤ, Some}
use Rattle.rules.specs.Units.{+◌, −◌, between, within}
use Rattle.laws.specs.Ranges.{both_true, both_iff, Between, between_iff, in_range_lem}
use Rattle.laws.specs.Units.{within_le}
use Rattle.laws.specs.Refraction.{Air as InRange}
use Rattle.line_places.specs.Air.{air_accepted}
use Rattle.line_places.specs.Air.{air_of}

module _ (p t : ℤ) where
  pub accepted_iff : air_accepted (Some (air_of p t)) ≡ true ↔ Between (+ 5000) (+ 11000) p × Between (− 500) (+ 500) t
  unfolding air_accepted
  accepted_iff =
      both_iff (between (+ 5000) (+ 11000) p) (between (− 500) (+ 500) t) (between_iff (+ 5000) (+ 11000) p)
      (between_iff (− 500) (+ 500) t)

  pub accepted_in_range : air_accepted (Some (air_of p t)) ≡ true → InRange p t
  unfolding air_accepted within
  accepted_in_range e =
      let k = both_true (between (+ 5000) (+ 11000) p) (between (− 500) (+ 500) t) e in
      record { pressure = in_range_lem 5000 11000 p k.0; temperature = within_le 500 t k.1 }
