-- From one altitude to a higher: by how much g rises, and by how much a quotient of cosine and sine, and then a lift in
-- the weather, can fall.
use Rattle.std.specs.Prelude.{◌≡◌, refl, true, ℕ, ◌+◌, ◌*◌, ◌-◌, ◌≤◌, ◌<◌, ℤ, pos, nat_abs, ◌+ℤ◌}
use Rattle.std.proofs.Common.{ap, subst, mul-le-mul_left, mul-le-mul_right, arith, lit<, le-ltb}
use Rattle.std.proofs.Math.Decide.{dec_le}
use Rattle.integers.specs.Difference.{parts_of_eq, add_is}
use Rattle.rules.specs.declared.Pair.{Pair}
use Rattle.rules.specs.Units.{unit, +◌}
use Rattle.rules.specs.Rounding.{rnd_size}
use Rattle.laws.specs.Ranges.{InRange}
use Rattle.laws.specs.Rounding.{rnd_size_rises, rnd_pos, rnd_size_mono, rnd_size_more, rnd_size_low, rnd_size_high}
use Rattle.laws.specs.UpTo.{UpTo}
use Rattle.rules.specs.Refraction.{argument, not_below_nought, lift_of, in_weather, is_lifted}
use Rattle.laws.specs.RefractionArgument.{most, falls_slowly, lifted_range, argument_of}
use Rattle.laws.specs.Refraction.{weather_divisor}
use Rattle.laws.specs.Air.{dividend, divisor, in_sizes}

-- ---- g

-- what is divided by for g
abbrev pub divisor_of : ℤ → ℕ
divisor_of h = nat_abs (h +ℤ + 18396000000)

argument_is : (h : ℤ) → argument h ≡ h +ℤ pos (rnd_size most (divisor_of h))
unfolding argument
argument_is h = ap (λ z. h +ℤ z) (rnd_pos most (divisor_of h))

-- g, by the divisor
pub argument_parts : (h : ℤ) → is_lifted h ≡ true
    → nat_abs (argument h) + 18396000000 ≡ divisor_of h + rnd_size most (divisor_of h)
argument_parts h e =
    let r = lifted_range h e in
    let a = (argument_of h e).range in
    let j = divisor_of h in
    omega (
      arith,
      parts_of_eq (h +ℤ + 18396000000) (pos j) r.is,
      parts_of_eq (argument h) (pos (nat_abs (argument h))) a.is,
      parts_of_eq (argument h) (h +ℤ pos (rnd_size most j)) (argument_is h),
      add_is h (+ 18396000000),
      add_is h (pos (rnd_size most j)),
    )

-- the quotient does not grow; where both divisors are at most 22,000,000,000 it falls by a quarter of their difference
pub quotient_falls : (j i : ℕ) → 14796000000 ≤ j → j ≤ i → rnd_size most i ≤ rnd_size most j
quotient_falls j i h k = rnd_size_mono most most i j (omega arith) (omega arith) (omega arith)

pub quotient_falls_faster : (j i : ℕ) → 14796000000 ≤ j → j ≤ i → i ≤ 22000000000
    → (i - j) + 4 * rnd_size most i ≤ 4 * rnd_size most j + 4
quotient_falls_faster j i h k l =
    by (i - j) (rnd_size most j) (rnd_size most i) (omega arith) (rnd_size_high most j (omega arith)) (rnd_size_low most i)
    (omega (arith, rnd_size_mono most most 22000000000 i (lit< tt) (omega arith) (omega arith), at_end))
  where
    at_end : 6060000000 ≤ rnd_size most 22000000000
    at_end = omega (arith, rnd_size_high most 22000000000 (lit< tt))

    by : (d a b : ℕ) → i ≡ j + d → 2 * most < 2 * (j * a) + j → 2 * (i * b) ≤ 2 * most + i → j + 2 ≤ 4 * b
        → d + 4 * b ≤ 4 * a + 4
    by d a b e u v c = of (dec_le (d + 4 * b) (4 * a + 4))
      where
        of : Dec (d + 4 * b ≤ 4 * a + 4) → d + 4 * b ≤ 4 * a + 4
        of (yes t) = t
        of (no t) =
            let n : 4 * a + 5 ≤ d + 4 * b = omega arith in
            absurd (omega (arith, rw e at v, mul-le-mul_left j n, mul-le-mul_left d c))

-- g from a divisor on: at the floor, and at 22,000,000,000
pub argument_least : (h : ℤ) (a q : ℕ) → is_lifted h ≡ true → 14796000000 ≤ a → a ≤ divisor_of h → q ≤ rnd_size most a
    → a + q ≤ nat_abs (argument h) + 18396000000
argument_least h a q e i k l = omega (arith, argument_parts h e, falls_slowly a (divisor_of h) i k)

-- ---- a quotient of cosine and sine

cross : (c s b t d f n : ℕ) → c ≤ unit → t ≤ d + s → c ≤ f + b
    → 61200000 * (unit * d) + 61200000 * (f * s) ≤ n * (s * t)
    → 61200000 * c * t ≤ (n * t + 61200000 * b) * s
cross c s b t d f n h i k l = omega (arith, mul-le-mul_left c i, mul-le-mul_right d h, mul-le-mul_right s k)

-- c over s against b over t: the sine rises by at most d, the cosine falls by at most f
pub lift_falls : (c s b t d f n : ℕ) → 0 < s → 0 < t → c ≤ unit → t ≤ d + s → c ≤ f + b
    → 61200000 * (unit * d) + 61200000 * (f * s) ≤ n * (s * t)
    → rnd_size (61200000 * c) s ≤ n + rnd_size (61200000 * b) t
lift_falls c s b t d f n p q h i k l =
    subst (λ r. rnd_size (61200000 * c) s ≤ r) (rnd_size_more n (61200000 * b) t q)
    (rnd_size_mono (61200000 * c) (n * t + 61200000 * b) s t p q (cross c s b t d f n h i k l))

pub lift_of_size : (p : Pair) → p.cosine ≡ pos (nat_abs p.cosine)
    → nat_abs (lift_of p) ≡ rnd_size (61200000 * nat_abs p.cosine) (nat_abs p.sine)
unfolding lift_of not_below_nought
lift_of_size p e =
    let n = rnd_size (61200000 * nat_abs p.cosine) (nat_abs p.sine) in
    rw (e, rnd_pos (61200000 * nat_abs p.cosine) (nat_abs p.sine), le-ltb n 0 (omega arith)) refl

-- ---- in the weather

-- a lift less by at most n is less by at most m in any weather
pub weather_falls : (l k p t : ℤ) (a n m : ℕ) → UpTo l a → UpTo k a → InRange 5000 11000 p → nat_abs t ≤ 500
    → nat_abs l ≤ n + nat_abs k → 31130000 * n ≤ 22523000 * m → nat_abs (in_weather l p t) ≤ m + nat_abs (in_weather k p t)
weather_falls l k p t a n m hl hk hp ht h i =
    let d = (weather_divisor t ht).at_least in
    rw (in_sizes l p t a hl hp, in_sizes k p t a hk hp)
    (rnd_size_rises (dividend l p) (dividend k p) m (divisor t) (omega arith)
    (of (nat_abs l) (nat_abs k) (nat_abs p) (divisor t) h hp.at_most d))
  where
    of : (l k p d : ℕ) → l ≤ n + k → p ≤ 11000 → 22523000 ≤ d → l * p * 2830 ≤ m * d + k * p * 2830
    of l k p d u v w = omega (arith, i, mul-le-mul_right p u, mul-le-mul_left n v, mul-le-mul_left m w)
