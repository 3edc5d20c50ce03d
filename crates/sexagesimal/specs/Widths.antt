-- How long an angle for people is, and its parts.
use Rattle.std.specs.Prelude.{◌≡◌, ◌++◌, ℕ, ◌+◌, ◌/◌, ◌%◌, ℤ, nat_abs, length}
use Rattle.std.proofs.Common.{◌∙◌, arith, length-append}
use Rattle.rules.specs.Rounding.{rnd}
use Rattle.rules.specs.Numerals.{colon, point}
use Rattle.laws.specs.Decimal.{last_digits, length_last_digits}
use Rattle.sexagesimal.specs.Sexagesimal.{marked, clock, sexagesimal, round_in, hours, bearing, elevation}

pub marked_length : (mark digits n : ℕ) → length (marked mark digits n) ≡ 1 + digits
unfolding marked
marked_length mark digits n = omega (arith, length_last_digits digits n)

pub clock_length : (width s : ℕ) → length (clock width s) ≡ width + 6
unfolding clock
clock_length width s =
    length-append (last_digits width (s / 3600) ++ marked colon 2 (s / 60 % 60)) (marked colon 2 (s % 60))
    ∙ omega (
      arith,
      length-append (last_digits width (s / 3600)) (marked colon 2 (s / 60 % 60)),
      length_last_digits width (s / 3600),
      marked_length colon 2 (s / 60 % 60),
      marked_length colon 2 (s % 60),
    )

pub sexagesimal_length : (width s digits n : ℕ) → length (sexagesimal width s digits n) ≡ width + 7 + digits
unfolding sexagesimal
sexagesimal_length width s digits n =
    length-append (clock width s) (marked point digits n)
    ∙ omega (arith, clock_length width s, marked_length point digits n)

pub hours_length : (z : ℤ) → length (hours z) ≡ 11
unfolding hours
hours_length z = let n = round_in 8640000 150000 z in omega (arith, sexagesimal_length 2 (n / 100) 2 n)

pub bearing_length : (z : ℤ) → length (bearing z) ≡ 11
unfolding bearing
bearing_length z = let n = round_in 12960000 100000 z in omega (arith, sexagesimal_length 3 (n / 10) 1 n)

pub elevation_length : (z : ℤ) → length (elevation z) ≡ 11
unfolding elevation
elevation_length z =
    let n = nat_abs (rnd z 100000) in
    omega (arith, sexagesimal_length 2 (n / 10) 1 n)
