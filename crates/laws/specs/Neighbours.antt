-- The pair of the next angle: neither part moves by more than seven (docs/MATHEMATICS.md, "Neighbouring angles").
use Rattle.std.specs.Prelude.{◌≡◌, refl, [], ◌∷◌, ℕ, zero, suc, ◌+◌, ◌*◌, ◌-◌, ◌≤◌, ◌<◌, ℤ, pos, neg_ℤ, nat_abs, ◌+ℤ◌, ◌-ℤ◌, ◌*ℤ◌}
use Rattle.std.proofs.Common.{ap, mul-le-mul_right, lt_of_not-le, arith, lit<, lit≤}
use Rattle.std.proofs.Math.Nat.{le_of_mul-le-mul_left}
use Rattle.std.proofs.Math.Decide.{dec_le}
use Rattle.std.proofs.Math.IntN.{neg_ℤ-neg_ℤ}
use Rattle.integers.specs.Difference.{add_is}
use Rattle.integers.specs.Size.{abs_neg, abs_mul, abs_sub}
use Rattle.integers.specs.Ring.{ring, v0, v1, v2, v3, v4, ◌⊖◌, ◌⊗◌, neg}
use Rattle.rules.specs.declared.Pair.{Pair}
use Rattle.rules.specs.Units.{unit, quarter, half_quarter}
use Rattle.rules.specs.Circle.{radian_parts, pair_of_parts, pair_to_half, exchanged_pair, pair_to_quarter, in_quarter, folded}
use Rattle.rules.specs.Circle.{pair}
use Rattle.rules.specs.Series.{whole, sine_series, cosine_series, pi, radian}
use Rattle.laws.specs.Near.{Near}
use Rattle.laws.specs.Circle.{errors_angle}
use Rattle.laws.specs.CircleToHalf.{pair_to_half_is, radian_parts_range, radian_parts_near, radian_parts_next_near}
use Rattle.laws.specs.CircleToHalf.{radians_le, sine_near, cosine_near}
use Rattle.laws.specs.Quarters.{Place, place}
use Rattle.laws.specs.Folding.{folded_at, folded_place, lower_half, upper_half}
use Rattle.laws.specs.Angles.{half_exchanged, sine_at_nought}

-- no part of p is further than seven from q's
pub record Beside (p q : Pair) : Type 0 where
  pub cosine : nat_abs (p.cosine -ℤ q.cosine) ≤ 7
  pub sine : nat_abs (p.sine -ℤ q.sine) ≤ 7

-- two numbers near the same fraction are near each other
beside_of_near : (p q n : ℤ) (d e : ℕ) → 2 * e ≤ 7999 → Near p n d e → Near q n d e → nat_abs (p -ℤ q) ≤ 7
beside_of_near p q n d e he hp hq =
    let X = p *ℤ pos d -ℤ pos unit *ℤ n in
    let Y = q *ℤ pos d -ℤ pos unit *ℤ n in
    last (nat_abs (p -ℤ q)) d e hp.divisor_pos he
    (omega (
      arith,
      ap nat_abs (out p q n (pos d) (pos unit)),
      abs_mul (pos d) (p -ℤ q),
      abs_sub X Y,
      hp.near,
      hq.near,
    ))
  where
    out : (p q n d b : ℤ) → d *ℤ (p -ℤ q) ≡ (p *ℤ d -ℤ b *ℤ n) -ℤ (q *ℤ d -ℤ b *ℤ n)
    out p q n d b = ring (p ∷ q ∷ n ∷ d ∷ b ∷ [])
        (v3 ⊗ (v0 ⊖ v1)) (v0 ⊗ v3 ⊖ v4 ⊗ v2 ⊖ (v1 ⊗ v3 ⊖ v4 ⊗ v2)) tt

    last : (t d e : ℕ) → 0 < d → 2 * e ≤ 7999 → 1000 * (d * t) ≤ 2 * (e * d) → t ≤ 7
    last t d e hd he h =
        let k : d * (1000 * t) ≤ d * 7999 = omega (arith, mul-le-mul_right d he) in
        let j : 1000 * t ≤ 7999 = le_of_mul-le-mul_left {k = d} k hd in
        omega arith

-- ---- up to half a quarter

next_to_half : (r : ℕ) → r + 1 ≤ half_quarter → Beside (pair_to_half (r + 1)) (pair_to_half r)
next_to_half r h =
    let e = errors_angle in
    let x = radian_parts (pos r) in
    let x' = radian_parts (pos (r + 1)) in
    let y = pos (r * pi) in
    let l : r ≤ half_quarter = omega arith in
    let s = rw e.0 at (sine_near x y radian 540 (radian_parts_range r l) (radian_parts_near r l) (radians_le r l)) in
    let c = rw e.1 at (cosine_near x y radian 540 (radian_parts_range r l) (radian_parts_near r l) (radians_le r l)) in
    let s' = rw e.0 at
    (sine_near x' y radian 540 (radian_parts_range (r + 1) h) (radian_parts_next_near r h) (radians_le r l)) in
    let c' = rw e.1 at
    (cosine_near x' y radian 540 (radian_parts_range (r + 1) h) (radian_parts_next_near r h) (radians_le r l)) in
    rw (pair_to_half_is (r + 1), pair_to_half_is r) (record {
      cosine = beside_of_near (pair_of_parts x').cosine (pair_of_parts x).cosine (cosine_series y radian) (whole radian)
          3374 (lit≤ tt) c' c;
      sine = beside_of_near (pair_of_parts x').sine (pair_of_parts x).sine (sine_series y radian) (whole radian)
          3665 (lit≤ tt) s' s;
    })

-- ---- exchanged, and in another quarter

abs_swap : (x y : ℤ) → nat_abs (x -ℤ y) ≤ 7 → nat_abs (y -ℤ x) ≤ 7
abs_swap x y h = rw (out x y, abs_neg (x -ℤ y)) h
  where
    out : (x y : ℤ) → y -ℤ x ≡ neg_ℤ (x -ℤ y)
    out x y = ring (x ∷ y ∷ []) (v1 ⊖ v0) (neg (v0 ⊖ v1)) tt

abs_both_neg : (x y : ℤ) → nat_abs (x -ℤ y) ≤ 7 → nat_abs (neg_ℤ x -ℤ neg_ℤ y) ≤ 7
abs_both_neg x y h = rw (out x y, abs_neg (x -ℤ y)) h
  where
    out : (x y : ℤ) → neg_ℤ x -ℤ neg_ℤ y ≡ neg_ℤ (x -ℤ y)
    out x y = ring (x ∷ y ∷ []) (neg v0 ⊖ neg v1) (neg (v0 ⊖ v1)) tt

beside_exchanged : (p q : Pair) → Beside p q → Beside (exchanged_pair q) (exchanged_pair p)
unfolding exchanged_pair
beside_exchanged p q h =
    record { cosine = abs_swap p.sine q.sine h.sine; sine = abs_swap p.cosine q.cosine h.cosine }

beside_quarter : (k : ℕ) (p q : Pair) → Beside p q → Beside (in_quarter k p) (in_quarter k q)
unfolding in_quarter
beside_quarter zero p q h = h
beside_quarter (suc zero) p q h =
    record { cosine = abs_both_neg p.sine q.sine h.sine; sine = h.cosine }
beside_quarter (suc (suc zero)) p q h = record {
  cosine = abs_both_neg p.cosine q.cosine h.cosine;
  sine = abs_both_neg p.sine q.sine h.sine;
}
beside_quarter (suc (suc (suc k))) p q h =
    record { cosine = h.sine; sine = abs_both_neg p.cosine q.cosine h.cosine }

-- ---- up to a quarter

from_half : (r : ℕ) → half_quarter ≤ r → pair_to_quarter pair_to_half r ≡ exchanged_pair (pair_to_half (quarter - r))
from_half r h = by (dec_le r half_quarter)
  where
    by : Dec (r ≤ half_quarter) → pair_to_quarter pair_to_half r ≡ exchanged_pair (pair_to_half (quarter - r))
    by (yes k) =
        let e : r ≡ half_quarter = omega arith in rw (e, lower_half pair_to_half half_quarter (lit≤ tt)) half_exchanged
    by (no k) = upper_half pair_to_half r (lt_of_not-le k)

next_to_quarter : (r : ℕ) → r + 1 < quarter → Beside (pair_to_quarter pair_to_half (r + 1)) (pair_to_quarter pair_to_half r)
next_to_quarter r h = by (dec_le (r + 1) half_quarter)
  where
    by : Dec (r + 1 ≤ half_quarter) → Beside (pair_to_quarter pair_to_half (r + 1)) (pair_to_quarter pair_to_half r)
    by (yes k) = rw (lower_half pair_to_half (r + 1) k, lower_half pair_to_half r (omega arith)) (next_to_half r k)
    by (no k) =
        let m = quarter - (r + 1) in
        let e : quarter - r ≡ m + 1 = omega arith in
        rw (from_half (r + 1) (omega arith), from_half r (omega arith), e)
        (beside_exchanged (pair_to_half (m + 1)) (pair_to_half m) (next_to_half m (omega arith)))

-- from the quarter's last angle to the next quarter's first
next_quarter : Beside (in_quarter 1 (pair_to_quarter pair_to_half 0)) (pair_to_quarter pair_to_half (quarter - 1))
unfolding in_quarter exchanged_pair
next_quarter =
    let h = beside_exchanged (pair_to_half 1) (pair_to_half 0) (next_to_half 0 (lit≤ tt)) in
    rw (lower_half pair_to_half 0 (lit≤ tt), from_half (quarter - 1) (lit≤ tt), sine_at_nought) (rw sine_at_nought at h)

-- ---- every angle

quarter_first : (q : ℕ) (p : Pair) → q < 3 → in_quarter (suc q) p ≡ in_quarter q (in_quarter 1 p)
unfolding in_quarter
quarter_first zero p h = refl
quarter_first (suc zero) p h = refl
quarter_first (suc (suc zero)) p h = rw (neg_ℤ-neg_ℤ p.sine)
quarter_first (suc (suc (suc q))) p h = absurd (omega arith)

quarter_round : (p : Pair) → in_quarter 0 p ≡ in_quarter 3 (in_quarter 1 p)
unfolding in_quarter
quarter_round p = rw (neg_ℤ-neg_ℤ p.sine)

pub pair_next : (a : ℤ) → Beside (pair (a +ℤ pos 1)) (pair a)
unfolding pair
pair_next a =
    let w = place a in
    rw (folded_place pair_to_half a w) (by w w.q w.r refl refl (dec_le (w.r + 2) quarter) (dec_le w.q 2))
  where
    by : (w : Place a) (q r : ℕ) → w.q ≡ q → w.r ≡ r → Dec (w.r + 2 ≤ quarter) → Dec (w.q ≤ 2)
        → Beside (folded pair_to_half (a +ℤ pos 1)) (in_quarter q (pair_to_quarter pair_to_half r))
    by w q r d e (yes h) g =
        rw (folded_at pair_to_half (a +ℤ pos 1) q (r + 1) w.k w.j (omega (arith, w.q_lt)) (omega arith)
        (omega (arith, w.is, add_is a (pos 1))))
        (beside_quarter q (pair_to_quarter pair_to_half (r + 1)) (pair_to_quarter pair_to_half r)
        (next_to_quarter r (omega arith)))
    by w q r d e (no h) (yes g) =
        let t : r ≡ quarter - 1 = omega (arith, w.r_lt) in
        rw (
          t,
          folded_at pair_to_half (a +ℤ pos 1) (suc q) 0 w.k w.j (omega arith) (lit< tt)
              (omega (arith, w.is, add_is a (pos 1))),
          quarter_first q (pair_to_quarter pair_to_half 0) (omega arith),
        )
        (beside_quarter q (in_quarter 1 (pair_to_quarter pair_to_half 0)) (pair_to_quarter pair_to_half (quarter - 1))
        next_quarter)
    by w q r d e (no h) (no g) =
        let t : r ≡ quarter - 1 = omega (arith, w.r_lt) in
        let u : q ≡ 3 = omega (arith, w.q_lt) in
        rw (
          t,
          u,
          folded_at pair_to_half (a +ℤ pos 1) 0 0 w.k (w.j + 1) (lit< tt) (lit< tt)
              (omega (arith, w.is, add_is a (pos 1))),
          quarter_round (pair_to_quarter pair_to_half 0),
        )
        (beside_quarter 3 (in_quarter 1 (pair_to_quarter pair_to_half 0)) (pair_to_quarter pair_to_half (quarter - 1))
        next_quarter)
