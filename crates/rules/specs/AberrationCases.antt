-- Worked cases of change C-14, as one list under one claim: ϖ, and step 4 with the eccentricity.
use Rattle.std.specs.Prelude.{◌≡◌, refl, ℤ}
use Rattle.rules.specs.Data.{Tt, Pair}
use Rattle.rules.specs.Units.{+◌, −◌}
use Rattle.rules.specs.Rounding.{rnd, rnd_size}
use Rattle.rules.specs.Polynomials.{times_t_plus, polynomial}
use Rattle.rules.specs.Sun.{perihelion}
use Rattle.rules.specs.Night.{aberration_x, aberration_y, aberration}

abbrev at : ℤ → Tt
at t = record { 0 = t }

abbrev parts : ℤ → ℤ → Pair
parts c s = record { cosine = c; sine = s }

-- the pairs of 0 and of a quarter
abbrev pair_of_nought : Pair
pair_of_nought = parts (+ 1073741824) (+ 0)

abbrev pair_of_quarter : Pair
pair_of_quarter = parts (+ 0) (+ 1073741824)

-- 0.60 of a part for S, 0.30 of a part for ϖ
abbrev small_sun : Pair
small_sun = parts (+ 6039) (+ 6039)

abbrev small_perihelion : Pair
small_perihelion = parts (+ 180667) (+ 180667)

pub record AberrationCases : Type 0 where
  -- "ϖ being the polynomial 370574460000, 6190056000, 1656000"
  pub at_j2000_lem : perihelion (at (+ 0)) ≡ + 370574460000
  pub a_century_later : perihelion (at (+ 3155760000000)) ≡ + 376766172000
  pub a_century_before : perihelion (at (− 3155760000000)) ≡ + 364386060000
  -- "bx loses Rnd(1783 sin ϖ/2^30)"
  pub x_loses : aberration_x pair_of_nought pair_of_quarter ≡ − 1783
  pub x_of_both : aberration_x pair_of_quarter pair_of_quarter ≡ + 104909
  pub x_of_the_circle : aberration_x pair_of_quarter pair_of_nought ≡ + 106692
  -- "by gains Rnd(1783 cos ϖ/2^30)"
  pub y_gains : aberration_y pair_of_quarter pair_of_nought ≡ + 1783
  pub y_of_both : aberration_y pair_of_nought pair_of_nought ≡ − 104909
  pub y_of_the_circle : aberration_y pair_of_nought pair_of_quarter ≡ − 106692
  -- each is rounded by itself: 0.60 to 1 and 0.30 to 0
  pub x_rounded_twice : aberration_x small_sun small_perihelion ≡ + 1
  pub y_rounded_twice : aberration_y small_sun small_perihelion ≡ − 1
  -- "Add (bx, Rnd(by cos ε/2^30), Rnd(by sin ε/2^30))"
  pub added : aberration pair_of_nought pair_of_nought (parts (+ 536870912) (+ 268435456))
      ≡ record { x = + 0; y = − 52455; z = − 26227 }

pub aberration_cases : AberrationCases
unfolding rnd rnd_size times_t_plus polynomial perihelion aberration_x aberration_y aberration
aberration_cases = record {
  at_j2000_lem = refl;
  a_century_later = refl;
  a_century_before = refl;
  x_loses = refl;
  x_of_both = refl;
  x_of_the_circle = refl;
  y_gains = refl;
  y_of_both = refl;
  y_of_the_circle = refl;
  x_rounded_twice = refl;
  y_rounded_twice = refl;
  added = refl;
}
