-- By how much the lift falls from one lifted altitude to a higher, in any weather: for each part that x rises by, where
-- g is at most 50,000,000,000 µas, and for each 96 µas that g rises by, above.
use Rattle.std.specs.Prelude.{◌≡◌, true, ℕ, ◌+◌, ◌*◌, ◌-◌, ◌/◌, ◌≤◌, ℤ, pos, nat_abs, Option}
use Rattle.std.proofs.Common.{mul-le-mul, mul-le-mul_left, arith, lit≤}
use Rattle.std.proofs.Math.Decide.{dec_le}
use Rattle.rules.specs.Units.{unit, quarter}
use Rattle.rules.specs.Rounding.{rnd_size}
use Rattle.rules.specs.Circle.{pair}
use Rattle.laws.specs.Rounding.{rnd_size_zero}
use Rattle.laws.specs.Angles.{pair_sized}
use Rattle.rules.specs.Refraction.{argument, standard_lift, in_weather, is_lifted}
use Rattle.laws.specs.RefractionArgument.{argument_of}
use Rattle.laws.specs.Refraction.{standard_lift_range, Air}
use Rattle.laws.specs.PairSteps.{parts_of, low_sine_least, low_sine_higher, low_sine_steps}
use Rattle.laws.specs.PairSteps.{low_cosine_steps}
use Rattle.laws.specs.QuarterSteps.{steps_to_quarter, sine_upper, cosine_before, cosine_at_quarter}
use Rattle.laws.specs.LiftSteps.{lift_falls, lift_of_size, weather_falls}

-- the quotient of cosine and sine, as the lift rounds it
abbrev quotient_of : ℕ → ℕ
quotient_of n = rnd_size (61200000 * nat_abs (pair (pos n)).cosine) (nat_abs (pair (pos n)).sine)

standard_size : (h : ℤ) → is_lifted h ≡ true → nat_abs (argument h) ≤ quarter
    → nat_abs (standard_lift h) ≡ quotient_of (nat_abs (argument h))
unfolding standard_lift
standard_size h e k =
    let n = nat_abs (argument h) in
    rw (argument_of h e).range.is (lift_of_size (pair (pos n)) (cosine_before n k))

-- ---- sizes alone

falls_low : (e s t : ℕ) → 28214000 ≤ s → 28214000 ≤ t
    → 61200000 * (unit * e) + 61200000 * (e * s) ≤ 85 * e * (s * t)
falls_low e s t h k =
    omega (arith, mul-le-mul_left e (mul-le-mul h k), mul-le-mul_left (e * s) k)

falls_higher : (e s t : ℕ) → 28214000 ≤ s → 41900000 ≤ t
    → 61200000 * (unit * e) + 61200000 * (e * s) ≤ 58 * e * (s * t)
falls_higher e s t h k =
    omega (arith, mul-le-mul_left e (mul-le-mul h k), mul-le-mul_left (e * s) k)

falls_upper : (e s t : ℕ) → 196000000 ≤ s → 196000000 ≤ t
    → 61200000 * (unit * e) + 61200000 * (e * s) ≤ 3 * e * (s * t)
falls_upper e s t h k = omega (arith, mul-le-mul_left e (mul-le-mul h k), mul-le-mul_left (e * s) k)

-- ---- of g from n to m

module _ (n m : ℕ) (h : n ≤ m) where
  -- up to 50,000,000,000 µas, x by at most e
  quotient_low : (e b v : ℕ) → 1 ≤ e → 5421897810 ≤ n → m ≤ 50000000000 → parts_of m ≤ parts_of n + e
      → 28214000 ≤ b → b ≤ nat_abs (pair (pos m)).sine
      → ((s t : ℕ) → 28214000 ≤ s → b ≤ t → 61200000 * (unit * e) + 61200000 * (e * s) ≤ v * (s * t))
      → quotient_of n ≤ v + quotient_of m
  quotient_low e b v o i k l q r f =
      let s = nat_abs (pair (pos n)).sine in
      let t = nat_abs (pair (pos m)).sine in
      let u = low_sine_least n i (omega arith) in
      lift_falls (nat_abs (pair (pos n)).cosine) s (nat_abs (pair (pos m)).cosine) t e e v
      (omega arith) (omega arith) (pair_sized (pos n)).cosine_le
      (omega (arith, low_sine_steps n m h k)) (low_cosine_steps n m h k e l o) (f s t u r)

  quotient_upper : 45400000000 ≤ n → m ≤ quarter → quotient_of n ≤ 3 * ((m - n) / 96 + 13) + quotient_of m
  quotient_upper i k =
      let e = (m - n) / 96 + 13 in
      let s = nat_abs (pair (pos n)).sine in
      let t = nat_abs (pair (pos m)).sine in
      let u = sine_upper n i (omega arith) in
      let v = sine_upper m (omega arith) k in
      let g = steps_to_quarter n m h k in
      lift_falls (nat_abs (pair (pos n)).cosine) s (nat_abs (pair (pos m)).cosine) t e e (3 * e)
      (omega arith) (omega arith) (pair_sized (pos n)).cosine_le
      (omega (arith, g.sine)) (omega (arith, g.cosine)) (falls_upper e s t u v)

-- ---- of two altitudes, in the weather

module _ (p t : ℤ) (air : Air p t) (h k : ℤ) (e : is_lifted h ≡ true) (i : is_lifted k ≡ true) where
  -- the lift in this air
  abbrev lift_in : ℤ → ℤ
  lift_in z = in_weather (standard_lift z) p t

  in_weather_lem : (n m : ℕ) → nat_abs (standard_lift h) ≤ n + nat_abs (standard_lift k) → 31130000 * n ≤ 22523000 * m
      → nat_abs (lift_in h) ≤ m + nat_abs (lift_in k)
  in_weather_lem n m l =
      weather_falls (standard_lift h) (standard_lift k) p t 3300000000 n m
      (standard_lift_range h e) (standard_lift_range k i) air.pressure air.temperature l

  module _ (l : nat_abs (argument h) ≤ nat_abs (argument k)) where
    module _ (j : 5421897810 ≤ nat_abs (argument h)) (v : nat_abs (argument k) ≤ 50000000000) (d : ℕ) (o : 1 ≤ d)
        (g : parts_of (nat_abs (argument k)) ≤ parts_of (nat_abs (argument h)) + d) where
      pub low_falls : nat_abs (lift_in h) ≤ 118 * d + nat_abs (lift_in k)
      low_falls = in_weather_lem (85 * d) (118 * d)
          (rw (standard_size h e (omega arith), standard_size k i (omega arith))
          (quotient_low (nat_abs (argument h)) (nat_abs (argument k)) l d 28214000 (85 * d) o j v g (lit≤ tt)
          (low_sine_least (nat_abs (argument k)) (omega arith) v) (λ s t. falls_low d s t)))
          (omega arith)

      pub higher_falls : 9671636364 ≤ nat_abs (argument k) → nat_abs (lift_in h) ≤ 81 * d + nat_abs (lift_in k)
      higher_falls q = in_weather_lem (58 * d) (81 * d)
          (rw (standard_size h e (omega arith), standard_size k i (omega arith))
          (quotient_low (nat_abs (argument h)) (nat_abs (argument k)) l d 41900000 (58 * d) o j v g (lit≤ tt)
          (low_sine_higher (nat_abs (argument k)) q v) (λ s t. falls_higher d s t)))
          (omega arith)

    -- above, also where g is past a quarter
    pub upper_falls : 45400000000 ≤ nat_abs (argument h) → nat_abs (argument h) ≤ quarter
        → nat_abs (lift_in h) ≤ 5 * ((nat_abs (argument k) - nat_abs (argument h)) / 96 + 13) + nat_abs (lift_in k)
    upper_falls q r = by (dec_le (nat_abs (argument k)) quarter)
      where
        at_quarter : quotient_of quarter ≡ 0
        at_quarter = rw cosine_at_quarter (rnd_size_zero (nat_abs (pair (pos quarter)).sine))

        by : Dec (nat_abs (argument k) ≤ quarter)
            → nat_abs (lift_in h) ≤ 5 * ((nat_abs (argument k) - nat_abs (argument h)) / 96 + 13) + nat_abs (lift_in k)
        by (yes s) =
            let n = (nat_abs (argument k) - nat_abs (argument h)) / 96 + 13 in
            in_weather_lem (3 * n) (5 * n)
            (rw (standard_size h e r, standard_size k i s)
            (quotient_upper (nat_abs (argument h)) (nat_abs (argument k)) l q s))
            (omega arith)
        by (no s) =
            let n = (nat_abs (argument k) - nat_abs (argument h)) / 96 + 13 in
            in_weather_lem (3 * n) (5 * n)
            (rw (standard_size h e r)
            (omega (arith, quotient_upper (nat_abs (argument h)) quarter r q (lit≤ tt), at_quarter)))
            (omega arith)
