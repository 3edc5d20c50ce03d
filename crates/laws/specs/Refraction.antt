-- The lift: its size, so that every product fits, and where it is nought.
use Rattle.std.specs.Prelude.{◌≡◌, refl, Bool, true, false, cond, ◌&&◌, ℕ, ◌+◌, ◌*◌, ◌≤◌, ◌<◌, ◌^◌, ℤ, pos, negsuc, nat_abs, ◌+ℤ◌, ◌*ℤ◌, ◌<ℤ◌, Option}
use Rattle.std.proofs.Common.{mul-le-mul, mul-le-mul_right, arith, lit<, lit≤, le-ltb}
use Rattle.std.proofs.Math.IntN.{+ℤ_idr}
use Rattle.std.specs.Int.Signed.{lt_z}
use Rattle.rules.specs.declared.Weather.{Weather}
use Rattle.integers.specs.Difference.{pos_part, neg_part, add_is}
use Rattle.integers.specs.Size.{abs_is, abs_mul, abs_add}
use Rattle.rules.specs.declared.Pair.{Pair}
use Rattle.rules.specs.Units.{unit, +◌, −◌, between}
use Rattle.rules.specs.Rounding.{rnd, rnd_size}
use Rattle.rules.specs.Circle.{pair}
use Rattle.laws.specs.Ranges.{InRange, yes}
use Rattle.laws.specs.Rounding.{rnd_under, rnd_pos, rnd_size_under}
use Rattle.laws.specs.UpTo.{UpTo, up_to_pos, up_to_is, up_to_le}
use Rattle.laws.specs.Angles.{pair_sized}
use Rattle.rules.specs.Floats.{tenths}
use Rattle.rules.specs.Refraction.{argument, not_below_nought, lift_of, standard_lift, in_weather, is_lifted}
use Rattle.rules.specs.Refraction.{lift_at, lift, observed}
use Rattle.laws.specs.Weather.{FieldsInRange, pressure_tenths, temperature_tenths}
use Rattle.laws.specs.RefractionArgument.{lifted_size, argument_sine}

pub not_below_nought_range : (z : ℤ) (b : ℕ) → nat_abs z ≤ b → UpTo (not_below_nought z) b
unfolding not_below_nought
not_below_nought_range (pos n) b h = rw (le-ltb n 0 (omega arith)) (up_to_pos n b h)
not_below_nought_range (negsuc n) b h = up_to_pos 0 b (omega arith)

-- what the quotient needs
pub record Liftable (p : Pair) : Type 0 where
  pub cosine_le : nat_abs p.cosine ≤ unit
  pub sine : InRange 20000000 unit p.sine

pub argument_liftable : (h : ℤ) → is_lifted h ≡ true → Liftable (pair (argument h))
argument_liftable h e = record { cosine_le = (pair_sized (argument h)).cosine_le; sine = argument_sine h e }

quotient_under : (c s a b m : ℕ) → c ≤ a → b ≤ s → 61200000 * a ≤ b * m → 61200000 * c ≤ s * m
quotient_under c s a b m h k l = omega (arith, mul-le-mul_right m k)

pub quotient_size : (p : Pair) (a b m : ℕ) → 0 < b → nat_abs p.cosine ≤ a → b ≤ nat_abs p.sine
    → 61200000 * a ≤ b * m
    → nat_abs (rnd (+ 61200000 *ℤ p.cosine) (nat_abs p.sine)) ≤ m
quotient_size p a b m q h k l =
    rnd_under (+ 61200000 *ℤ p.cosine) (nat_abs p.sine) m (omega arith)
    (rw (abs_mul (+ 61200000) p.cosine) (quotient_under (nat_abs p.cosine) (nat_abs p.sine) a b m h k l))

pub lift_of_range : (p : Pair) → Liftable p → UpTo (lift_of p) 3300000000
unfolding lift_of
lift_of_range p h = not_below_nought_range (rnd (+ 61200000 *ℤ p.cosine) (nat_abs p.sine)) 3300000000
    (quotient_size p unit 20000000 3300000000 (lit< tt) h.cosine_le h.sine.at_least (lit≤ tt))

pub standard_lift_range : (h : ℤ) → is_lifted h ≡ true → UpTo (standard_lift h) 3300000000
unfolding standard_lift
standard_lift_range h e = lift_of_range (pair (argument h)) (argument_liftable h e)

-- ---- in the weather

-- 10100 × (2730 + t): from 22,523,000 to 32,623,000
pub weather_divisor : (t : ℤ) → nat_abs t ≤ 500 → InRange 22523000 32623000 (+ 10100 *ℤ (+ 2730 +ℤ t))
weather_divisor t h =
    let i = of (+ 2730 +ℤ t)
    (omega (arith, add_is (+ 2730) t, abs_is t)) (omega (arith, add_is (+ 2730) t, abs_is t)) in
    rw i.is (record {
      is = refl;
      at_least = omega (arith, i.at_least);
      at_most = omega (arith, i.at_most);
    })
  where
    of : (z : ℤ) → 2230 + neg_part z ≤ pos_part z → pos_part z ≤ 3230 + neg_part z → InRange 2230 3230 z
    of (pos n) a b = record { is = refl; at_least = omega arith; at_most = omega arith }
    of (negsuc n) a b = absurd (omega arith)

-- what the product needs
pub record Weighed (l p t : ℤ) : Type 0 where
  pub lift : UpTo l 3300000000
  pub pressure : InRange 5000 11000 p
  pub temperature : nat_abs t ≤ 500

pub in_weather_range : (l p t : ℤ) (a m : ℕ) → UpTo l a → InRange 5000 11000 p → nat_abs t ≤ 500
    → 31130000 * a ≤ 22523000 * m → UpTo (in_weather l p t) m
unfolding in_weather
in_weather_range l p t a m hl hp ht k =
    let d = nat_abs (+ 10100 *ℤ (+ 2730 +ℤ t)) in
    let r = weather_divisor t ht in
    rw (up_to_is l a hl, hp.is, rnd_pos (nat_abs l * nat_abs p * 2830) d)
    (up_to_pos (rnd_size (nat_abs l * nat_abs p * 2830) d) m
    (rnd_size_under (nat_abs l * nat_abs p * 2830) d m (omega (arith, r.at_least))
    (omega (
      arith,
      mul-le-mul (up_to_le l a hl) hp.at_most,
      mul-le-mul_right m r.at_least,
    ))))

-- from nought to 4,600,000,000, in any air that is accepted
pub record Air (p t : ℤ) : Type 0 where
  pub pressure : InRange 5000 11000 p
  pub temperature : nat_abs t ≤ 500

pub air_weighed : (p t h : ℤ) → Air p t → is_lifted h ≡ true → Weighed (standard_lift h) p t
air_weighed p t h a e =
    record { lift = standard_lift_range h e; pressure = a.pressure; temperature = a.temperature }

pub lift_at_range : (p t h : ℤ) → Air p t → UpTo (lift_at p t h) 4600000000
unfolding lift_at
lift_at_range p t h a = by (is_lifted h) refl
  where
    by : (c : Bool) → is_lifted h ≡ c → UpTo (cond c (in_weather (standard_lift h) p t) (+ 0)) 4600000000
    by true e =
        in_weather_range (standard_lift h) p t 3300000000 4600000000 (standard_lift_range h e) a.pressure
        a.temperature (lit≤ tt)
    by false e = up_to_pos 0 4600000000 (lit≤ tt)

-- nothing is lifted below the floor, nor what no place gives
pub lift_at_nought : (p t h : ℤ) → is_lifted h ≡ false → lift_at p t h ≡ pos 0
unfolding lift_at
lift_at_nought p t h e = rw e

pub below_the_floor : (h : ℤ) → h <ℤ − 3600000000 → is_lifted h ≡ false
unfolding is_lifted between
below_the_floor h e = rw (yes (lt_z h (− 3600000000)) e.lt)

-- ---- by the record

pub record_air : (w : Weather) → FieldsInRange w → Air (tenths w.pressure) (tenths w.temperature)
record_air w f = record {
  pressure = pressure_tenths w.pressure f.pressure;
  temperature = temperature_tenths w.temperature f.temperature;
}

pub lift_range : (w : Weather) (h : ℤ) → FieldsInRange w → UpTo (lift w h) 4600000000
unfolding lift
lift_range w h f = by (w.has_pressure && w.has_temperature)
  where
    by : (b : Bool) → UpTo (cond b (lift_at (tenths w.pressure) (tenths w.temperature) h) (+ 0)) 4600000000
    by true = lift_at_range (tenths w.pressure) (tenths w.temperature) h (record_air w f)
    by false = up_to_pos 0 4600000000 (lit≤ tt)

pub lift_nought : (w : Weather) (h : ℤ) → is_lifted h ≡ false → lift w h ≡ pos 0
unfolding lift
lift_nought w h e =
    rw (lift_at_nought (tenths w.pressure) (tenths w.temperature) h e)
    (either (w.has_pressure && w.has_temperature))
  where
    either : (b : Bool) → cond b (pos 0) (+ 0) ≡ pos 0
    either true = refl
    either false = refl

-- "until both have come the lift is nought"
pub lift_without_pressure : (w : Weather) (h : ℤ) → w.has_pressure ≡ false → lift w h ≡ + 0
unfolding lift
lift_without_pressure w h e = rw e

pub lift_without_temperature : (w : Weather) (h : ℤ) → w.has_temperature ≡ false → lift w h ≡ + 0
unfolding lift
lift_without_temperature w h e = rw e (none w.has_pressure)
  where
    none : (b : Bool) → cond (b && false) (lift_at (tenths w.pressure) (tenths w.temperature) h) (+ 0) ≡ + 0
    none true = refl
    none false = refl

-- so that an observed altitude fits wherever the altitude does
pub lifted_or : (h l : ℤ) (P : ℤ → Type 0) → UpTo l 4600000000 → (is_lifted h ≡ false → l ≡ pos 0) → P h
    → ((z : ℤ) → nat_abs z ≤ 2 ^ 62 → P z) → P (h +ℤ l)
lifted_or h l P u n k m = by (is_lifted h) refl
  where
    by : (b : Bool) → is_lifted h ≡ b → P (h +ℤ l)
    by true e = m (h +ℤ l) (omega (arith, abs_add h l, lifted_size h e, up_to_le l 4600000000 u))
    by false e = rw (n e, +ℤ_idr h) k

pub observed_or : (w : Weather) (h : ℤ) (P : ℤ → Type 0) → FieldsInRange w → P h
    → ((z : ℤ) → nat_abs z ≤ 2 ^ 62 → P z) → P (observed w h)
unfolding observed
observed_or w h P f k l = lifted_or h (lift w h) P (lift_range w h f) (lift_nought w h) k l
