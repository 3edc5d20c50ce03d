-- Whole tenths as code works them: of an f32 below 2^11 in size, by the whole part of its product with 2^30.
use Rattle.std.specs.Prelude.{◌≡◌, refl, Bool, ◌&&◌, ◌||◌, ℕ, zero, suc, ◌+◌, ◌*◌, ◌/◌, ◌%◌, ◌<◌, ◌≤◌, ◌^◌, ℤ, pos, negsuc, nat_abs, ◌*ℤ◌, T, ltb, leb, Float}
use Rattle.std.proofs.Common.{sym, mul-one, mul_right_comm, div-lt_iff_lt-mul, lt_of_mul-lt-mul_right, mul-lt-mul_of_pos_right, le_trans, arith, ltb→lt, leb→le, lit<, lit≤, eqb→eq}
use Rattle.std.proofs.Math.Bool.{true, false}
use Rattle.std.proofs.Math.Dec.{eqb, lt→ltb}
use Rattle.std.specs.Float.Ieee.{nan, up, down, mul, fits, lt, le, to_signed, unlike}
use Rattle.std.specs.Float.{inf, fin, binary32, binary64}
use Rattle.std.specs.Float.Ieee.Fits.{down_pos, and_l, and_r}
use Rattle.std.specs.Float.Ieee.Exact.{HasValue}
use Rattle.rules.specs.Units.{unit}
use Rattle.rules.specs.Rounding.{rnd, rnd_size}
use Rattle.laws.specs.Rounding.{rnd_neg, rnd_pos}
use Rattle.laws.specs.Ranges.{true_not_false}
use Rattle.integers.specs.Size.{abs_neg}
use Rattle.integers.specs.Sign.{mul_neg}
use Rattle.rules.specs.Floats.{with_sign, finite, numerator, denominator, tenths}
use Rattle.laws.specs.FloatParts.{exact, whole_part, rounded}

-- what an f32's digits and places may be
fitted : (s : Bool) (m : ℕ) (e : ℤ) → T (fits binary32 (fin s m e)) → (m < 2 ^ 24) × (down e ≤ 2 ^ 149)
unfolding fits
fitted s zero (pos k) f = (lit< tt, lit≤ tt)
fitted s zero (negsuc k) f =
    let one : 2 ^ suc k ≤ 1 = omega (arith, eqb→eq (1 * 2 ^ suc k) 1 f) in
    (lit< tt, le_trans one (lit≤ tt))
fitted s (suc m) e f =
    let p : Bool = eqb (suc m % 2) 1 in
    let q : Bool = ltb (suc m) (2 ^ 24) in
    let r : Bool = leb (down e) (2 ^ 149) in
    let t : Bool = ltb (suc m * up e) (2 ^ 128 * down e) in (
      ltb→lt (suc m) (2 ^ 24) (and_r p q (and_l (p && q) r (and_l (p && q && r) t f))),
      leb→le (down e) (2 ^ 149) (and_r (p && q) r (and_l (p && q && r) t f)),
    )

-- finite, and below 2^11 in size
pub record Small (x : Float) : Type 0 where
  pub finite : finite x ≡ true
  pub size : nat_abs (numerator x) < 2 ^ 11 * denominator x

-- the float times 2^30, and its whole part
abbrev pub scaled : Float → Float
scaled x = mul binary64 x (fin false 1 (pos 30))

abbrev pub parts : Float → ℤ
parts x = to_signed 63 (scaled x)

or_left : (a b : Bool) → T a → T (a || b)
or_left true b h = tt
or_left false b h = absurd h

module _ (a c : ℕ) (C : 0 < c) (s : Bool) where
  less : (m : ℕ) (e : ℤ) → m * up e * c ≡ a * down e → a < 2 ^ 63 * c → m * up e * 1 < 2 ^ 63 * down e
  less m e h l =
      lt_of_mul-lt-mul_right c
      (rw (mul-one (m * up e), h, mul_right_comm (2 ^ 63) (down e) c) (mul-lt-mul_of_pos_right l (down_pos e)))

  above : (x : Float) → HasValue x s a c → a < 2 ^ 63 * c → T (le (fin true 1 (pos 63)) x)
  unfolding le lt
  above nan h l = absurd h
  above (inf t) h l = absurd h
  above (fin false m e) h l =
      or_left (ltb 0 (1 * 2 ^ 63 * down e + m * up e * 1))
      (eqb (1 * 2 ^ 63 * down e) (m * up e * 1) && (false || eqb (1 * 2 ^ 63 * down e) 0))
      (lt→ltb 0 (1 * 2 ^ 63 * down e + m * up e * 1) (omega (arith, down_pos e)))
  above (fin true m e) h l =
      or_left (ltb (m * up e * 1) (1 * 2 ^ 63 * down e)) (eqb (1 * 2 ^ 63 * down e) (m * up e * 1) && true)
      (lt→ltb (m * up e * 1) (1 * 2 ^ 63 * down e) (less m e h.1 l))

  below : (x : Float) → HasValue x s a c → a < 2 ^ 63 * c → T (lt x (fin false 1 (pos 63)))
  unfolding lt
  below nan h l = absurd h
  below (inf t) h l = absurd h
  below (fin true m e) h l = lt→ltb 0 (m * up e * 1 + 2 ^ 63 * down e) (omega (arith, down_pos e))
  below (fin false m e) h l = lt→ltb (m * up e * 1) (2 ^ 63 * down e) (less m e h.1 l)

-- all that code needs of the whole part
pub record Tenths (x : Float) : Type 0 where
  pub above : T (le (fin true 1 (pos 63)) (scaled x))
  pub below : T (lt (scaled x) (fin false 1 (pos 63)))
  pub size : nat_abs (parts x) < 2 ^ 41
  pub is : rnd (pos 10 *ℤ parts x) unit ≡ tenths x

abs_with_sign : (s : Bool) (n : ℕ) → nat_abs (with_sign s n) ≡ n
unfolding with_sign
abs_with_sign false n = refl
abs_with_sign true n = abs_neg (pos n)

ten_with_sign : (s : Bool) (n : ℕ) (d : ℕ) → rnd (pos 10 *ℤ with_sign s n) d ≡ with_sign s (rnd_size (10 * n) d)
unfolding with_sign
ten_with_sign false n d = rnd_pos (10 * n) d
ten_with_sign true n d = rw (mul_neg (pos 10) (pos n), rnd_neg (pos (10 * n)) d, rnd_pos (10 * n) d)

pub tenths_by_parts : (x : Float) → T (fits binary32 x) → Small x → Tenths x
unfolding finite numerator denominator mul tenths
tenths_by_parts nan f g = true_not_false (sym g.finite)
tenths_by_parts (inf s) f g = true_not_false (sym g.finite)
tenths_by_parts (fin s m e) f g = known (unlike_false s)
  where
    n : ℕ
    n = m * up e * unit

    d : ℕ
    d = down e * 1

    unlike_false : (s : Bool) → unlike s false ≡ s
    unlike_false true = refl
    unlike_false false = refl

    small : m * up e < 2 ^ 11 * down e
    small = rw (abs_with_sign s (m * up e)) at g.size

    D : 0 < d
    D = omega (arith, down_pos e)

    low : n / d < 2 ^ 41
    low = (div-lt_iff_lt-mul {k = d} {x = n} {y = 2 ^ 41} D).1 (omega (arith, small))

    known : unlike s false ≡ s → Tenths (fin s m e)
    known u =
        let p = fitted s m e f in
        let v : HasValue (scaled (fin s m e)) s n d = rw u (exact s m e p.0 p.1 small) in
        let w : parts (fin s m e) ≡ with_sign s (n / d) =
        whole_part n d D s (scaled (fin s m e)) v (omega (arith, low)) in
        record {
          above = above n d D s (scaled (fin s m e)) v (omega (arith, small));
          below = below n d D s (scaled (fin s m e)) v (omega (arith, small));
          size = rw (w, abs_with_sign s (n / d)) low;
          is = rw (w, ten_with_sign s (n / d) unit, ten_with_sign s (m * up e) (down e), rounded m e p.0);
        }
