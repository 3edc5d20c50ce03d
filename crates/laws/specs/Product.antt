-- A product that passes the word, divided and rounded. b is taken in three digits of 20 bits, and what each leaves over
-- is carried to the next; every part has the product's sign, so there is no case on signs. `carried_is` is the law,
-- `ProductFits` what it asks of the sizes, and the last section shows each use that document 01 makes of it.
use Rattle.std.specs.Prelude.{◌≡◌, ℕ, ◌+◌, ◌*◌, ◌/◌, ◌%◌, ◌≤◌, ◌<◌, ◌^◌, ℤ, pos, negsuc, neg_ℤ, nat_abs, ◌+ℤ◌, ◌*ℤ◌, ◌<ℤ◌}
use Rattle.std.proofs.Common.{ap, ◌∙◌, div-add-mod', div-mul-le_self, mul-le-mul, mul-le-mul_left, le_trans, arith, ltb→lt}
use Rattle.std.proofs.Math.Nat.{le_of_mul-le-mul_left}
use Rattle.std.specs.Int.Signed.{quot_z, rem_z, lt_z_yes}
use Rattle.integers.specs.Size.{abs_neg, abs_mul}
use Rattle.integers.specs.Quotient.{abs_quot, size_pos}
use Rattle.integers.specs.Sign.{odd, by_signs_lem}
use Rattle.rules.specs.Units.{century, year, half, half_quarter, half_in_parts, unit}
use Rattle.rules.specs.Rounding.{rnd, rnd_size}
use Rattle.laws.specs.Rounding.{rnd_size_more, rnd_neg, rnd_pos, rnd_under}

-- a digit of b
abbrev pub digit : ℕ
digit = 2 ^ 20

-- ---- the parts: a times the highest digit, then a times each next digit with the rest before it carried

abbrev pub high : ℤ → ℤ → ℤ
high a b = a *ℤ quot_z b (pos (2 ^ 40))

abbrev pub middle : ℤ → ℤ → ℤ → ℤ
middle a b d = rem_z (high a b) d *ℤ pos digit +ℤ a *ℤ rem_z (quot_z b (pos digit)) (pos digit)

abbrev pub low : ℤ → ℤ → ℤ → ℤ
low a b d = rem_z (middle a b d) d *ℤ pos digit +ℤ a *ℤ rem_z b (pos digit)

-- the quotients of the first two together
abbrev pub quotients : ℤ → ℤ → ℤ → ℤ
quotients a b d = quot_z (high a b) d *ℤ pos digit +ℤ quot_z (middle a b d) d

-- ---- of sizes

module _ (a b d : ℕ) where
  abbrev high_size : ℕ
  high_size = a * (b / 2 ^ 40)

  abbrev middle_size : ℕ
  middle_size = high_size % d * digit + a * (b / digit % digit)

  abbrev low_size : ℕ
  low_size = middle_size % d * digit + a * (b % digit)

  abbrev quotients_size : ℕ
  quotients_size = high_size / d * digit + middle_size / d

  in_digits : a * b ≡ a * (b / 2 ^ 40) * 2 ^ 40 + a * (b / digit % digit) * digit + a * (b % digit)
  in_digits = ap (λ z. a * z) (digits b) ∙ omega arith
    where
      digits : (b : ℕ) → b ≡ b / 2 ^ 40 * 2 ^ 40 + b / digit % digit * digit + b % digit
      digits b = omega arith

  carried_size : a * b ≡ quotients_size * digit * d + low_size
  carried_size = omega (arith, in_digits, div-add-mod' high_size d, div-add-mod' middle_size d)

-- ---- the law

pub carried_is : (a b d : ℤ) → pos 0 <ℤ d
    → quotients a b d *ℤ pos digit +ℤ rnd (low a b d) (nat_abs d) ≡ rnd (a *ℤ b) (nat_abs d)
carried_is a b (negsuc d) h = absurd h.lt
carried_is a b (pos d) h =
    by_signs_lem (λ x y. quotients x y (pos d) *ℤ pos digit +ℤ rnd (low x y (pos d)) d ≡ rnd (x *ℤ y) d)
    (λ m n. rw (rnd_pos (low_size m n d) d, rnd_pos (m * n) d) (ap pos (of_sizes m n)))
    (λ x y p. simp (odd, rnd_neg) (ap neg_ℤ p))
    (λ x y p. simp (odd, rnd_neg) (ap neg_ℤ p)) a b
  where
    of_sizes : (m n : ℕ) → quotients_size m n d * digit + rnd_size (low_size m n d) d ≡ rnd_size (m * n) d
    of_sizes m n =
        rw (carried_size m n d, rnd_size_more (quotients_size m n d * digit) (low_size m n d) d (ltb→lt 0 d h.lt))

-- ---- sizes

-- what the sizes may be, so that every part fits 63 bits
pub record ProductFits (a b d : ℤ) : Type 0 where
  pub divisor_pos : pos 0 <ℤ d
  pub divisor_le : nat_abs d ≤ 2 ^ 42
  pub a_le : nat_abs a ≤ 2 ^ 42
  pub b_le : nat_abs b ≤ 2 ^ 60
  pub quotient_le : nat_abs a * nat_abs b ≤ nat_abs d * 2 ^ 61

quotients_size_lem : (a b d : ℤ) → pos 0 <ℤ d → nat_abs (quotients a b d) * digit * nat_abs d ≤ nat_abs a * nat_abs b
quotients_size_lem a b (negsuc d) h = absurd h.lt
quotients_size_lem a b (pos d) h =
    by_signs_lem (λ x y. nat_abs (quotients x y (pos d)) * digit * d ≤ nat_abs x * nat_abs y)
    (λ m n. omega (arith, carried_size m n d))
    (λ x y p. simp (odd, abs_neg) p) (λ x y p. simp (odd, abs_neg) p) a b

high_quotient_size : (a b d : ℤ) → nat_abs (quot_z (high a b) d) * digit * nat_abs d ≤ nat_abs a * nat_abs b
high_quotient_size a b d =
    rw (abs_quot (high a b) d, abs_mul a (quot_z b (pos (2 ^ 40))), abs_quot b (pos (2 ^ 40)))
    (le_trans (omega (arith, div-mul-le_self (nat_abs a * (nat_abs b / 2 ^ 40)) (nat_abs d)))
    (mul-le-mul_left (nat_abs a) (highest (nat_abs b))))
  where
    highest : (n : ℕ) → n / 2 ^ 40 * digit ≤ n
    highest n = omega arith

under : (x d : ℕ) → 0 < d → (n : ℕ) → x * d ≤ n → n ≤ d * 2 ^ 61 → x ≤ 2 ^ 61
under x d h n p q = le_of_mul-le-mul_left {k = d} (omega arith) h

pub quotients_le : (a b d : ℤ) → ProductFits a b d → nat_abs (quotients a b d) * digit ≤ 2 ^ 61
quotients_le a b d w =
    under (nat_abs (quotients a b d) * digit) (nat_abs d) (size_pos d w.divisor_pos) (nat_abs a * nat_abs b)
    (quotients_size_lem a b d w.divisor_pos) w.quotient_le

pub high_quotient_le : (a b d : ℤ) → ProductFits a b d → nat_abs (quot_z (high a b) d) * digit ≤ 2 ^ 61
high_quotient_le a b d w =
    under (nat_abs (quot_z (high a b) d) * digit) (nat_abs d) (size_pos d w.divisor_pos) (nat_abs a * nat_abs b)
    (high_quotient_size a b d) w.quotient_le

pub carried_le : (a b d : ℤ) → ProductFits a b d → nat_abs (rnd (a *ℤ b) (nat_abs d)) ≤ 2 ^ 61
carried_le a b d w =
    rnd_under (a *ℤ b) (nat_abs d) (2 ^ 61) (size_pos d w.divisor_pos) (rw (abs_mul a b) w.quotient_le)

-- ---- the uses

-- a polynomial in time: t, the value so far, Q
pub polynomial_fits : (t p : ℤ) → nat_abs t ≤ century → nat_abs p ≤ 2 ^ 60 → ProductFits t p (pos century)
polynomial_fits t p ht hp = record {
  divisor_pos = lt_z_yes tt;
  divisor_le = omega arith;
  a_le = omega arith;
  b_le = hp;
  quotient_le = omega (arith, mul-le-mul ht hp);
}

-- µas to radians: r, 3,373,259,426, half a circle
pub radians_fits : (r : ℤ) → nat_abs r ≤ half_quarter → ProductFits r (pos half_in_parts) (pos half)
radians_fits r hr = record {
  divisor_pos = lt_z_yes tt;
  divisor_le = omega arith;
  a_le = omega arith;
  b_le = omega arith;
  quotient_le = omega arith;
}

-- motion: TT, the motion, a year
pub motion_fits : (t m : ℤ) → nat_abs t ≤ century → nat_abs m ≤ 2 ^ 31 → ProductFits t m (pos year)
motion_fits t m ht hm = record {
  divisor_pos = lt_z_yes tt;
  divisor_le = omega arith;
  a_le = omega arith;
  b_le = omega arith;
  quotient_le = omega (arith, mul-le-mul ht hm);
}

-- radians to µas: half a circle, θ, 3,373,259,426
pub reading_fits : (θ : ℤ) → nat_abs θ ≤ unit → ProductFits (pos half) θ (pos half_in_parts)
reading_fits θ hθ = record {
  divisor_pos = lt_z_yes tt;
  divisor_le = omega arith;
  a_le = omega arith;
  b_le = omega arith;
  quotient_le = omega arith;
}
