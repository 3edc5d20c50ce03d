-- An observed altitude is within a quarter where the altitude is: from where g reaches a quarter nothing is lifted, and
-- just before that less than is left.
use Rattle.std.specs.Prelude.{◌≡◌, Bool, cond, ◌&&◌, ℕ, zero, suc, ◌+◌, ◌*◌, ◌≤◌, ◌≤ℤ◌, ℤ, pos, negsuc, neg_ℤ, ◌+ℤ◌, ◌*ℤ◌, Option}
use Rattle.std.proofs.Math.Path.{refl}
use Rattle.std.proofs.Common.{sym, arith, lit<, lit≤}
use Rattle.std.proofs.Math.Bool.{true, false}
use Rattle.std.proofs.Math.Decide.{dec_le}
use Rattle.std.proofs.Math.IntN.{nat_abs}
use Rattle.rules.specs.declared.Weather.{Weather}
use Rattle.integers.specs.Difference.{pos_part, neg_part, add_is}
use Rattle.integers.specs.Size.{abs_is, abs_le}
use Rattle.integers.specs.Sign.{mul_neg}
use Rattle.rules.specs.Units.{quarter, +◌}
use Rattle.rules.specs.Rounding.{rnd, rnd_size}
use Rattle.rules.specs.Circle.{pair}
use Rattle.laws.specs.Ranges.{le_of_sizes}
use Rattle.laws.specs.Rounding.{rnd_neg, rnd_pos}
use Rattle.laws.specs.UpTo.{UpTo, up_to_pos, up_to_le}
use Rattle.rules.specs.Floats.{tenths}
use Rattle.rules.specs.Refraction.{argument, not_below_nought, lift_of, standard_lift, is_lifted}
use Rattle.rules.specs.Refraction.{in_weather, lift_at, lift, observed}
use Rattle.laws.specs.Sines.{cosine_past, near_quarter}
use Rattle.laws.specs.Weather.{FieldsInRange}
use Rattle.laws.specs.RefractionArgument.{argument_of}
use Rattle.laws.specs.Refraction.{quotient_size, not_below_nought_range, standard_lift_range, in_weather_range}
use Rattle.laws.specs.Refraction.{Air, record_air, lift_range}

-- ---- the standard lift near the zenith

negative : (k : ℕ) → not_below_nought (negsuc k) ≡ pos 0
unfolding not_below_nought
negative k = refl

-- a cosine that is not above nought lifts nothing
not_above : (n d : ℕ) → UpTo (not_below_nought (rnd (+ 61200000 *ℤ neg_ℤ (pos n)) d)) 0
not_above n d = rw (mul_neg (+ 61200000) (pos n), rnd_neg (pos (61200000 * n)) d, rnd_pos (61200000 * n) d)
    (none (rnd_size (61200000 * n) d))
  where
    none : (k : ℕ) → UpTo (not_below_nought (neg_ℤ (pos k))) 0
    none zero = not_below_nought_range (pos 0) 0 (omega arith)
    none (suc k) = rw (negative k) (up_to_pos 0 0 (omega arith))

pub past_zenith : (h : ℤ) → is_lifted h ≡ true → quarter ≤ nat_abs (argument h) → UpTo (standard_lift h) 0
unfolding standard_lift lift_of
past_zenith h e k =
    let r = (argument_of h e).range in
    let c = cosine_past (nat_abs (argument h)) k r.at_most in
    let p = pair (argument h) in
    let i : p.cosine ≡ neg_ℤ (pos (nat_abs p.cosine)) = rw (sym r.is) at c in
    rw i (not_above (nat_abs p.cosine) (nat_abs p.sine))

before_zenith : (h : ℤ) → is_lifted h ≡ true → quarter ≤ nat_abs (argument h) + 5000000000 → nat_abs (argument h) ≤ quarter
    → UpTo (standard_lift h) 3000000
unfolding standard_lift lift_of
before_zenith h e j k =
    let r = (argument_of h e).range in
    let p = pair (argument h) in
    let q = rw (sym r.is) at (near_quarter (nat_abs (argument h)) j k) in
    not_below_nought_range (rnd (+ 61200000 *ℤ p.cosine) (nat_abs p.sine)) 3000000
    (quotient_size p 26100000 536870910 3000000 (lit< tt) q.cosine_le (omega (arith, q.sine_ge)) (lit≤ tt))

-- ---- the lift leaves the altitude within a quarter

module _ (p t h : ℤ) (air : Air p t) where
  pub lifted_by : (a m : ℕ) → UpTo (standard_lift h) a → 31130000 * a ≤ 22523000 * m
      → nat_abs (in_weather (standard_lift h) p t) ≤ m
  lifted_by a m u k =
      up_to_le (in_weather (standard_lift h) p t) m
      (in_weather_range (standard_lift h) p t a m u air.pressure air.temperature k)

  pub room : nat_abs h ≤ quarter → is_lifted h ≡ true
      → pos_part h + nat_abs (in_weather (standard_lift h) p t) ≤ neg_part h + quarter
  room k e =
      by (dec_le quarter (nat_abs (argument h))) (dec_le (pos_part h + 4600000000) (neg_part h + quarter))
    where
      by : Dec (quarter ≤ nat_abs (argument h)) → Dec (pos_part h + 4600000000 ≤ neg_part h + quarter)
          → pos_part h + nat_abs (in_weather (standard_lift h) p t) ≤ neg_part h + quarter
      by (yes i) d = omega (arith, lifted_by 0 0 (past_zenith h e i) (lit≤ tt), abs_is h)
      by (no i) (yes j) = omega (arith, lifted_by 3300000000 4600000000 (standard_lift_range h e) (lit≤ tt))
      by (no i) (no j) =
          let a = (argument_of h e).above in
          omega (arith, a, lifted_by 3000000 4200000 (before_zenith h e (omega arith) (omega arith)) (lit≤ tt))

  pub lift_at_room : nat_abs h ≤ quarter → pos_part h + nat_abs (lift_at p t h) ≤ neg_part h + quarter
  unfolding lift_at
  lift_at_room k = of (is_lifted h) refl
    where
      of : (c : Bool) → is_lifted h ≡ c
          → pos_part h + nat_abs (cond c (in_weather (standard_lift h) p t) (+ 0)) ≤ neg_part h + quarter
      of true e = room k e
      of false e = omega (arith, abs_is h)

lift_room : (w : Weather) (h : ℤ) → FieldsInRange w → nat_abs h ≤ quarter
    → pos_part h + nat_abs (lift w h) ≤ neg_part h + quarter
unfolding lift
lift_room w h f k = of (w.has_pressure && w.has_temperature)
  where
    of : (b : Bool)
        → pos_part h + nat_abs (cond b (lift_at (tenths w.pressure) (tenths w.temperature) h) (+ 0))
        ≤ neg_part h + quarter
    of true = lift_at_room (tenths w.pressure) (tenths w.temperature) h (record_air w f) k
    of false = omega (arith, abs_is h)

-- within a quarter
pub observed_within : (w : Weather) (h : ℤ) → FieldsInRange w → nat_abs h ≤ quarter → nat_abs (observed w h) ≤ quarter
unfolding observed
observed_within w h f k =
    let l = lift w h in
    abs_le (h +ℤ l) quarter
    (omega (arith, add_is h l, abs_is l, lift_room w h f k, (lift_range w h f).low))
    (omega (arith, add_is h l, abs_is h, (lift_range w h f).low))

-- nothing is seen lower than it stands
pub observed_above : (w : Weather) (h : ℤ) → FieldsInRange w → h ≤ℤ observed w h
unfolding observed
observed_above w h f =
    let l = lift w h in
    le_of_sizes h (h +ℤ l) (omega (arith, add_is h l, (lift_range w h f).low))
