-- What the air does to a lift: denser air lifts no less, warmer air no more, and a lift of nought stays nought.
use Rattle.std.specs.Prelude.{◌≡◌, refl, Bool, cond, ◌&&◌, ℕ, ◌+◌, ◌*◌, ◌≤◌, ℤ, pos, ◌+ℤ◌, ◌*ℤ◌, ◌≤ℤ◌, Option}
use Rattle.std.proofs.Common.{ap, ◌∙◌, mul-le-mul_left, mul-le-mul_right, lit≤}
use Rattle.std.proofs.Math.Bool.{true, false}
use native.Mathlib.Omega.{arith}
use Rattle.std.proofs.Math.IntN.{nat_abs}
use Rattle.std.specs.Int.Signed.{lt_z}
use Rattle.integers.specs.Difference.{add_is, le_z_true, parts_of_eq}
use Rattle.integers.specs.Size.{abs_is, abs_mul, parts_apart}
use Rattle.rules.specs.declared.Weather.{Weather}
use Rattle.rules.specs.Units.{+◌}
use Rattle.rules.specs.Rounding.{rnd, rnd_size}
use Rattle.rules.specs.Circle.{pair}
use Rattle.rules.specs.Floats.{tenths}
use Rattle.laws.specs.Ranges.{InRange, yes, le_of_sizes}
use Rattle.laws.specs.Rounding.{rnd_pos, rnd_size_mono}
use Rattle.laws.specs.UpTo.{UpTo, up_to_pos, up_to_is, up_to_le}
use Rattle.rules.specs.Refraction.{argument, not_below_nought, lift_of, standard_lift, in_weather, is_lifted}
use Rattle.rules.specs.Refraction.{lift_at, lift}
use Rattle.laws.specs.Weather.{FieldsInRange}
use Rattle.laws.specs.Refraction.{weather_divisor, Air, standard_lift_range, lift_at_range}
use Rattle.laws.specs.Refraction.{record_air, in_weather_range}

-- the lift as a quotient of sizes
abbrev pub dividend : ℤ → ℤ → ℕ
dividend l p = nat_abs l * nat_abs p * 2830

abbrev pub divisor : ℤ → ℕ
divisor t = nat_abs (+ 10100 *ℤ (+ 2730 +ℤ t))

pub in_sizes : (l p t : ℤ) (a : ℕ) → UpTo l a → InRange 5000 11000 p
    → nat_abs (in_weather l p t) ≡ rnd_size (dividend l p) (divisor t)
unfolding in_weather
in_sizes l p t a hl hp = rw (up_to_is l a hl, hp.is, rnd_pos (dividend l p) (divisor t))

divisor_mono : (s t : ℤ) → nat_abs s ≤ 500 → nat_abs t ≤ 500 → s ≤ℤ t → divisor s ≤ divisor t
divisor_mono s t hs ht k =
    let y = + 2730 +ℤ s in
    let z = + 2730 +ℤ t in
    rw (abs_mul (+ 10100) y, abs_mul (+ 10100) z)
    (mul-le-mul_left 10100 (omega (
      arith,
      le_z_true s t (yes _ k.le),
      add_is (+ 2730) s,
      add_is (+ 2730) t,
      abs_is y,
      abs_is z,
      parts_apart y,
      parts_apart z,
      abs_is s,
      abs_is t,
    )))

-- of one lift before the weather
module _ (l : ℤ) (a : ℕ) (hl : UpTo l a) where
  denser : (p q t : ℤ) → Air p t → Air q t → nat_abs p ≤ nat_abs q
      → nat_abs (in_weather l p t) ≤ nat_abs (in_weather l q t)
  denser p q t h j k =
      let d = (weather_divisor t h.temperature).at_least in
      rw (in_sizes l p t a hl h.pressure, in_sizes l q t a hl j.pressure)
      (rnd_size_mono (dividend l p) (dividend l q) (divisor t) (divisor t) (omega arith) (omega arith)
      (mul-le-mul_right (divisor t) (mul-le-mul_right 2830 (mul-le-mul_left (nat_abs l) k))))

  warmer : (p s t : ℤ) → Air p s → Air p t → s ≤ℤ t → nat_abs (in_weather l p t) ≤ nat_abs (in_weather l p s)
  warmer p s t h j k =
      let d = (weather_divisor s h.temperature).at_least in
      let e = (weather_divisor t j.temperature).at_least in
      rw (in_sizes l p t a hl j.pressure, in_sizes l p s a hl h.pressure)
      (rnd_size_mono (dividend l p) (dividend l p) (divisor t) (divisor s) (omega arith) (omega arith)
      (mul-le-mul_left (dividend l p) (divisor_mono s t h.temperature j.temperature k)))

-- ---- of an altitude

-- an order of two lifts from one of their sizes
le_of_lifts : (x y : ℤ) (a : ℕ) → UpTo x a → UpTo y a → nat_abs x ≤ nat_abs y → x ≤ℤ y
le_of_lifts x y a h k l =
    rw (up_to_is x a h, up_to_is y a k) (le_of_sizes (pos (nat_abs x)) (pos (nat_abs y)) (omega arith))

module _ (h : ℤ) where
  pub denser_lifts_no_less : (p q t : ℤ) → Air p t → Air q t → p ≤ℤ q → lift_at p t h ≤ℤ lift_at q t h
  unfolding lift_at
  denser_lifts_no_less p q t u v k =
      le_of_lifts (lift_at p t h) (lift_at q t h) 4600000000 (lift_at_range p t h u) (lift_at_range q t h v)
      (by (is_lifted h) refl)
    where
      by : (b : Bool) → is_lifted h ≡ b
          → nat_abs (cond b (in_weather (standard_lift h) p t) (+ 0))
          ≤ nat_abs (cond b (in_weather (standard_lift h) q t) (+ 0))
      by true e = denser (standard_lift h) 3300000000 (standard_lift_range h e) p q t u v
          (omega (
            arith,
            le_z_true p q (yes _ k.le),
            abs_is p,
            abs_is q,
            parts_of_eq p (pos (nat_abs p)) u.pressure.is,
            parts_of_eq q (pos (nat_abs q)) v.pressure.is,
          ))
      by false e = omega arith

  pub warmer_lifts_no_more : (p s t : ℤ) → Air p s → Air p t → s ≤ℤ t → lift_at p t h ≤ℤ lift_at p s h
  unfolding lift_at
  warmer_lifts_no_more p s t u v k =
      le_of_lifts (lift_at p t h) (lift_at p s h) 4600000000 (lift_at_range p t h v) (lift_at_range p s h u)
      (by (is_lifted h) refl)
    where
      by : (b : Bool) → is_lifted h ≡ b
          → nat_abs (cond b (in_weather (standard_lift h) p t) (+ 0))
          ≤ nat_abs (cond b (in_weather (standard_lift h) p s) (+ 0))
      by true e = warmer (standard_lift h) 3300000000 (standard_lift_range h e) p s t u v k
      by false e = omega arith

-- ---- a lift that would be negative

-- "nought if negative"
pub lift_where_negative : (w : Weather) (h : ℤ) → FieldsInRange w
    → lt_z (rnd (+ 61200000 *ℤ (pair (argument h)).cosine) (nat_abs (pair (argument h)).sine)) (+ 0) ≡ true
    → lift w h ≡ + 0
unfolding lift lift_at standard_lift lift_of not_below_nought
lift_where_negative w h f e = rw e (either (w.has_pressure && w.has_temperature) (is_lifted h))
  where
    p : ℤ
    p = tenths w.pressure

    t : ℤ
    t = tenths w.temperature

    none : in_weather (+ 0) p t ≡ + 0
    none =
        let a = record_air w f in
        let z = in_weather (+ 0) p t in
        let u = in_weather_range (+ 0) p t 0 0 (up_to_pos 0 0 (lit≤ tt)) a.pressure a.temperature (lit≤ tt) in
        up_to_is z 0 u ∙ ap pos (omega (arith, up_to_le z 0 u))

    either : (b c : Bool) → cond b (cond c (in_weather (+ 0) p t) (+ 0)) (+ 0) ≡ + 0
    either true true = none
    either true false = refl
    either false c = refl
