-- docs/RULES.md, "Polynomials in time": precession and the mean obliquity. Definitions only.
use Rattle.std.specs.Prelude.{cond, List, [], ◌∷◌, ℤ, Result, Ok, Err}
use Rattle.rules.specs.Data.{Tt, Precession, Refusal}
use Rattle.rules.specs.Units.{+◌, −◌}
use Rattle.rules.specs.Polynomials.{polynomial, instant_refused, angle_at}

-- ---- "Precession from J2000" (Lieske 1977): ζ, z, θ

-- source 000, equation 3.14
abbrev pub zeta_row : List ℤ
zeta_row = + 0 ∷ + 2306218100 ∷ + 301880 ∷ + 17998 ∷ []

-- source 000, equation 3.15
abbrev pub z_row : List ℤ
z_row = + 0 ∷ + 2306218100 ∷ + 1094680 ∷ + 18203 ∷ []

-- source 000, equation 3.16, misprints 0.041883 in the last one
abbrev pub theta_row : List ℤ
theta_row = + 0 ∷ + 2004310900 ∷ − 426650 ∷ − 41833 ∷ []

unfoldable pub precession : Tt → Precession
precession t = record {
  zeta = polynomial zeta_row t.0;
  z = polynomial z_row t.0;
  theta = polynomial theta_row t.0;
}

-- or refusal 12
unfoldable pub precession_at : Tt → Result Precession Refusal
precession_at t = cond (instant_refused t.0) (Err Refusal.Instant) (Ok (precession t))

-- ---- "Mean obliquity ε"

-- Lieske 1977; source 000, equation 3.6
abbrev pub obliquity_row : List ℤ
obliquity_row = + 84381448000 ∷ − 46815000 ∷ − 590 ∷ + 1813 ∷ []

unfoldable pub obliquity : Tt → ℤ
obliquity t = polynomial obliquity_row t.0

-- or refusal 12
unfoldable pub obliquity_at : Tt → Result ℤ Refusal
obliquity_at t = angle_at t.0 (obliquity t)
