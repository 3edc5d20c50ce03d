-- The range of g, so that its sine is never nought and the product in it fits; and that it grows with the altitude.
use Rattle.std.specs.Prelude.{◌≡◌, refl, true, [], ◌∷◌, ℕ, ◌+◌, ◌*◌, ◌-◌, ◌≤◌, ◌<◌, ℤ, pos, negsuc, nat_abs, ◌+ℤ◌, ◌-ℤ◌, ◌*ℤ◌, ◌≤ℤ◌, ◌<ℤ◌}
use Rattle.std.proofs.Common.{ap, subst, le_trans, mul-le-mul, mul-le-mul_left, arith, lit<, lit≤, lt→ltb}
use Rattle.std.specs.Int.Signed.{lt_z_yes}
use Rattle.integers.specs.Difference.{pos_part, neg_part, parts_of_eq, add_is, sub_is, le_z_true, pos_sub}
use Rattle.integers.specs.Size.{abs_is, abs_le}
use Rattle.integers.specs.Ring.{v0, lit, ◌⊖◌, ◌⊗◌, square}
use Rattle.integers.specs.Order.{nonneg_pos, nonneg_square, le_of_nonneg, certify, both, none, part}
use Rattle.rules.specs.Units.{unit, quarter, +◌, −◌}
use Rattle.rules.specs.Rounding.{rnd_size}
use Rattle.rules.specs.Circle.{pair}
use Rattle.laws.specs.Ranges.{InRange, between_iff, yes, le_of_sizes}
use Rattle.laws.specs.Rounding.{rnd_under, rnd_pos, rnd_size_mono, rnd_size_more}
use Rattle.laws.specs.Nearest.{rnd_ge}
use Rattle.laws.specs.Product.{ProductFits}
use Rattle.rules.specs.Refraction.{argument, is_lifted}
use Rattle.laws.specs.Sines.{sine_between}

-- ---- what is divided by for g

-- h + 18,396,000,000: from 14,796,000,000 to 342,396,000,000
pub lifted_range : (h : ℤ) → is_lifted h ≡ true → InRange 14796000000 342396000000 (h +ℤ + 18396000000)
unfolding is_lifted
lifted_range h e =
    let b = (between_iff (− 3600000000) (pos quarter) h).0 e in
    let k = le_z_true (− 3600000000) h (yes _ b.above.le) in
    let l = le_z_true h (pos quarter) (yes _ b.below.le) in
    of (h +ℤ + 18396000000) (omega (arith, add_is h (+ 18396000000))) (omega (arith, add_is h (+ 18396000000)))
  where
    of : (z : ℤ) → 14796000000 + neg_part z ≤ pos_part z → pos_part z ≤ 342396000000 + neg_part z
        → InRange 14796000000 342396000000 z
    of (pos n) a b = record { is = refl; at_least = omega arith; at_most = omega arith }
    of (negsuc n) a b = absurd (omega arith)

pub lifted_size : (h : ℤ) → is_lifted h ≡ true → nat_abs h ≤ quarter
unfolding is_lifted
lifted_size h e =
    let b = (between_iff (− 3600000000) (pos quarter) h).0 e in
    abs_le h quarter
    (omega (arith, le_z_true h (pos quarter) (yes _ b.below.le)))
    (omega (arith, le_z_true (− 3600000000) h (yes _ b.above.le)))

-- what code divides by is above nought
pub above_nought : (z : ℤ) (a b : ℕ) → 0 < a → InRange a b z → pos 0 <ℤ z
above_nought z a b h r = rw r.is (lt_z_yes (lt→ltb 0 (nat_abs z) (omega (arith, r.at_least))))

-- 133,488,000,000,000,000,000 is 133,488,000,000 × 1,000,000,000, carried in parts
pub argument_fits : (h : ℤ) → is_lifted h ≡ true → ProductFits (+ 133488000000) (+ 1000000000) (h +ℤ + 18396000000)
argument_fits h e =
    let r = lifted_range h e in
    record {
      divisor_pos = above_nought (h +ℤ + 18396000000) 14796000000 342396000000 (lit< tt) r;
      divisor_le = omega (arith, r.at_most);
      a_le = omega arith;
      b_le = omega arith;
      quotient_le = omega (arith, r.at_least);
    }

-- ---- the range of g

abbrev pub most : ℕ
most = 133488000000000000000

-- k + K / k is at least 23,107,400,000, twice a root of K: 0 ≤ (k − s)² + (K − s²)
two_roots : (k : ℕ) → (pos k *ℤ (+ 23107400000 -ℤ pos k)) ≤ℤ pos most
two_roots k = le_of_nonneg (pos k *ℤ (+ 23107400000 -ℤ pos k)) (pos most)
    (certify (pos k ∷ []) (square (v0 ⊖ lit (+ 11553700000)) ∷ []) (both (nonneg_square (pos k -ℤ + 11553700000)) none)
    (lit (pos most) ⊖ v0 ⊗ (lit (+ 23107400000) ⊖ v0))
    (part 1 (0 ∷ []) ∷ part 16310000000000 [] ∷ []) tt)

-- the rounded quotient, of a divisor in range
record Quotient (k : ℕ) : Type 0 where
  least : 23107400000 ≤ rnd_size most k + k
  low : 389000000 ≤ rnd_size most k
  high : rnd_size most k ≤ 9100000000

quotient : (k : ℕ) → 14796000000 ≤ k → k ≤ 342396000000 → Quotient k
quotient k a b =
    let p : 0 < k = omega arith in
    record {
      least = omega (arith, at_least (+ 23107400000 -ℤ pos k) (two_roots k), sub_is (+ 23107400000) (pos k));
      low = omega (
        arith,
        at_least (+ 389000000) (le_of_nonneg (pos k *ℤ + 389000000) (pos most)
            (rw (pos_sub most (k * 389000000) (omega arith)) (nonneg_pos (most - k * 389000000)))),
      );
      high = rw (rnd_pos most k) at (rnd_under (pos most) k 9100000000 p (omega arith));
    }
  where
    at_least : (l : ℤ) → (pos k *ℤ l) ≤ℤ pos most → pos_part l ≤ rnd_size most k + neg_part l
    at_least l h = omega (
      arith,
      le_z_true l (pos (rnd_size most k)) (yes _ (rw (rnd_pos most k) at (rnd_ge (pos most) l k (omega arith) h)).le),
    )

-- g, by the divisor k and the rounded quotient
pub record Argument (h : ℤ) : Type 0 where
  pub range : InRange 4700000000 (quarter + 10000000000) (argument h)
  -- above h by at least 389,000,000
  pub above : pos_part h + 389000000 ≤ nat_abs (argument h) + neg_part h

pub argument_of : (h : ℤ) → is_lifted h ≡ true → Argument h
unfolding argument
argument_of h e =
    let r = lifted_range h e in
    let k = nat_abs (h +ℤ + 18396000000) in
    let q = quotient k r.at_least r.at_most in
    let n = rnd_size most k in
    let i : pos_part h + 18396000000 ≡ neg_part h + k =
    omega (arith, add_is h (+ 18396000000), parts_of_eq (h +ℤ + 18396000000) (pos k) r.is) in
    let g = h +ℤ pos n in
    let p = of g (omega (arith, add_is h (pos n), q.least)) (omega (arith, add_is h (pos n), q.high, r.at_most)) in
    let s : argument h ≡ g = ap (λ z. h +ℤ z) (rnd_pos most k) in
    record {
      range = rw s p;
      above = rw s (omega (arith, add_is h (pos n), q.low, abs_is g, parts_of_eq g (pos (nat_abs g)) p.is));
    }
  where
    of : (z : ℤ) → 4700000000 + neg_part z ≤ pos_part z → pos_part z ≤ quarter + 10000000000 + neg_part z
        → InRange 4700000000 (quarter + 10000000000) z
    of (pos n) a b = record { is = refl; at_least = omega arith; at_most = omega arith }
    of (negsuc n) a b = absurd (omega arith)

-- g grows with the altitude: a divisor larger by n takes less than n from the quotient, as K < j k
pub falls_slowly : (j k : ℕ) → 14796000000 ≤ j → j ≤ k → rnd_size most j ≤ (k - j) + rnd_size most k
falls_slowly j k a b =
    subst (λ q. rnd_size most j ≤ q) (rnd_size_more (k - j) most k (omega arith))
    (rnd_size_mono most ((k - j) * k + most) j k (omega arith) (omega arith)
    (cross (k - j) j k (omega arith) (le_trans (lit≤ tt) (mul-le-mul a (le_trans a b)))))
  where
    cross : (n j k : ℕ) → k ≡ j + n → most ≤ j * k → most * k ≤ (n * k + most) * j
    cross n j k e h = rw e (omega (arith, mul-le-mul_left n (rw e at h)))

pub argument_grows : (h i : ℤ) → is_lifted h ≡ true → is_lifted i ≡ true → h ≤ℤ i → argument h ≤ℤ argument i
unfolding argument
argument_grows h i e f l =
    let r = lifted_range h e in
    let s = lifted_range i f in
    let j = nat_abs (h +ℤ + 18396000000) in
    let k = nat_abs (i +ℤ + 18396000000) in
    let a = le_z_true h i (yes _ l.le) in
    let p : pos_part h + 18396000000 ≡ neg_part h + j =
    omega (arith, add_is h (+ 18396000000), parts_of_eq (h +ℤ + 18396000000) (pos j) r.is) in
    let q : pos_part i + 18396000000 ≡ neg_part i + k =
    omega (arith, add_is i (+ 18396000000), parts_of_eq (i +ℤ + 18396000000) (pos k) s.is) in
    rw (rnd_pos most j, rnd_pos most k)
    (le_of_sizes (h +ℤ pos (rnd_size most j)) (i +ℤ pos (rnd_size most k))
    (omega (
      arith,
      add_is h (pos (rnd_size most j)),
      add_is i (pos (rnd_size most k)),
      falls_slowly j k r.at_least (omega arith),
    )))

-- the sine of g is at least 20,000,000 parts of 2^30, so never nought
pub argument_sine : (h : ℤ) → is_lifted h ≡ true → InRange 20000000 unit (pair (argument h)).sine
argument_sine h e =
    let r = (argument_of h e).range in
    rw r.is (sine_between (nat_abs (argument h)) r.at_least r.at_most)
