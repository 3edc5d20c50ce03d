-- What `rnd` is known by: its size, its sign, what it leaves over. `rnd_near` is what error bounds cite,
-- `rnd_by_quotients` what code cites.
use Rattle.std.specs.Prelude.{◌≡◌, refl, ℕ, zero, suc, ◌+◌, ◌*◌, ◌-◌, ◌/◌, ◌%◌, ◌≤◌, ◌<◌, ℤ, pos, negsuc, neg_ℤ, nat_abs, ◌+ℤ◌, ◌-ℤ◌, ◌*ℤ◌, ◌<ℤ◌}
use Rattle.std.proofs.Common.{sym, ap, subst, ◌∙◌, div-add-mod', mod-lt, div-mul-le_self, div-lt_iff_lt-mul, mul-le-mul_left, mul-le-mul_right, le-mul_of_pos_right, arith, ltb→lt}
use Rattle.std.proofs.Math.Nat.{div-eq_of_lt-le, lt-div-mul-add}
use Rattle.std.proofs.Math.IntN.{neg_ℤ-neg_ℤ}
use Rattle.std.specs.Float.Ieee.Nearest.{div_mono}
use Rattle.std.specs.Int.Signed.{quot_z, rem_z, mag}
use Rattle.integers.specs.Difference.{sub_is}
use Rattle.integers.specs.Size.{abs_neg, abs_is, parts_apart, mag_neg_le}
use Rattle.integers.specs.Sign.{odd, mul_neg, neg_add_neg, by_sign}
use Rattle.rules.specs.Rounding.{rnd, rnd_size}

-- ---- of a size

-- r is the size rounded where 2 d r is within d of 2 n, the lower end in and the upper out
pub rnd_size_is : (n d r : ℕ) → 2 * (d * r) ≤ 2 * n + d → 2 * n < 2 * (d * r) + d → rnd_size n d ≡ r
unfolding rnd_size
rnd_size_is n d r h k = div-eq_of_lt-le (2 * d) (omega arith) (omega arith)

pub rnd_size_low : (n d : ℕ) → 2 * (d * rnd_size n d) ≤ 2 * n + d
unfolding rnd_size
rnd_size_low n d = omega (arith, div-mul-le_self (2 * n + d) (2 * d))

pub rnd_size_high : (n d : ℕ) → 0 < d → 2 * n < 2 * (d * rnd_size n d) + d
unfolding rnd_size
rnd_size_high n d h = omega (arith, lt-div-mul-add {a = 2 * n + d} {b = 2 * d} (omega arith))

pub rnd_size_zero : (d : ℕ) → rnd_size 0 d ≡ 0
unfolding rnd_size
rnd_size_zero zero = refl
rnd_size_zero (suc d) = rnd_size_is 0 (suc d) 0 (omega arith) (omega arith)

-- q times the divisor more is q more
pub rnd_size_more : (q n d : ℕ) → 0 < d → rnd_size (q * d + n) d ≡ q + rnd_size n d
rnd_size_more q n d h =
    rnd_size_is (q * d + n) d (q + rnd_size n d) (omega (arith, rnd_size_low n d)) (omega (arith, rnd_size_high n d h))

-- by quotient and remainder, with no sum of the two: a half or more of d adds one
rnd_size_by_quotient : (q r d : ℕ) → r < d → rnd_size (q * d + r) d ≡ q + 2 * r / d
rnd_size_by_quotient q r d h = rnd_size_is (q * d + r) d (q + 2 * r / d)
    (omega (
      arith,
      div-mul-le_self (2 * r) d,
      mul-le-mul_left d (small (2 * r / d)
          ((div-lt_iff_lt-mul {k = d} {x = 2 * r} {y = 2} (omega arith)).1 (omega arith))),
    ))
    (omega (arith, lt-div-mul-add {a = 2 * r} {b = d} (omega arith)))
  where
    small : (e : ℕ) → e < 2 → e ≤ 1
    small e h = omega arith

pub rnd_size_le : (n d : ℕ) → 0 < d → rnd_size n d ≤ n
unfolding rnd_size
rnd_size_le n d h = omega (
  arith,
  (div-lt_iff_lt-mul {k = 2 * d} {x = 2 * n + d} {y = n + 1} (omega arith)).1
      (omega (arith, le-mul_of_pos_right n h)),
)

pub rnd_size_under : (n d m : ℕ) → 0 < d → n ≤ d * m → rnd_size n d ≤ m
unfolding rnd_size
rnd_size_under n d m h k =
    omega (arith, (div-lt_iff_lt-mul {k = 2 * d} {x = 2 * n + d} {y = m + 1} (omega arith)).1 (omega arith))

-- a larger dividend or a smaller divisor gives no smaller quotient
pub rnd_size_mono : (m n d e : ℕ) → 0 < d → 0 < e → m * e ≤ n * d → rnd_size m d ≤ rnd_size n e
unfolding rnd_size
rnd_size_mono m n d e hd he h =
    div_mono (2 * m + d) (2 * d) (2 * n + e) (2 * e) (omega arith) (omega arith) (omega (arith, h))

-- a dividend larger by at most q divisors gives at most q more
pub rnd_size_rises : (m n q d : ℕ) → 0 < d → m ≤ q * d + n → rnd_size m d ≤ q + rnd_size n d
rnd_size_rises m n q d h k =
    subst (λ r. rnd_size m d ≤ r) (rnd_size_more q n d h)
    (rnd_size_mono m (q * d + n) d d h h (mul-le-mul_right d k))

-- ---- of a number: odd, its size

pub rnd_pos : (n d : ℕ) → rnd (pos n) d ≡ pos (rnd_size n d)
unfolding rnd
rnd_pos n d = refl

pub rnd_neg : (x : ℤ) (d : ℕ) → rnd (neg_ℤ x) d ≡ neg_ℤ (rnd x d)
unfolding rnd
rnd_neg (pos zero) d = rw rnd_size_zero
rnd_neg (pos (suc k)) d = refl
rnd_neg (negsuc k) d = sym (neg_ℤ-neg_ℤ (pos (rnd_size (suc k) d)))

pub abs_rnd : (x : ℤ) (d : ℕ) → nat_abs (rnd x d) ≡ rnd_size (nat_abs x) d
unfolding rnd
abs_rnd (pos n) d = refl
abs_rnd (negsuc n) d = abs_neg (pos (rnd_size (suc n) d))

pub rnd_le : (x : ℤ) (d : ℕ) → 0 < d → nat_abs (rnd x d) ≤ nat_abs x
rnd_le x d h = rw (abs_rnd x d) (rnd_size_le (nat_abs x) d h)

pub rnd_under : (x : ℤ) (d m : ℕ) → 0 < d → nat_abs x ≤ d * m → nat_abs (rnd x d) ≤ m
rnd_under x d m h k = rw (abs_rnd x d) (rnd_size_under (nat_abs x) d m h k)

pub mag_rnd : (x : ℤ) (d : ℕ) → 0 < d → mag (rnd x d) ≤ mag x
unfolding rnd
mag_rnd (pos n) d h = rnd_size_le n d h
mag_rnd (negsuc n) d h = mag_neg_le (rnd_size (suc n) d) n (rnd_size_le (suc n) d h)

-- ---- what is left over

-- its size, whichever side of x it is on
pub rest_size : (x : ℤ) (d : ℕ)
    → nat_abs (x -ℤ pos d *ℤ rnd x d) ≡ (nat_abs x - d * rnd_size (nat_abs x) d) + (d * rnd_size (nat_abs x) d - nat_abs x)
rest_size x d = by_sign
    (λ x. nat_abs (x -ℤ pos d *ℤ rnd x d)
    ≡ (nat_abs x - d * rnd_size (nat_abs x) d) + (d * rnd_size (nat_abs x) d - nat_abs x))
    (λ n. rw (rnd_pos n d) (omega (
      arith,
      sub_is (pos n) (pos (d * rnd_size n d)),
      abs_is (pos n -ℤ pos (d * rnd_size n d)),
      parts_apart (pos n -ℤ pos (d * rnd_size n d)),
    )))
    (λ y p. rw (
      rnd_neg y d,
      mul_neg (pos d) (rnd y d),
      neg_add_neg y (neg_ℤ (pos d *ℤ rnd y d)),
      abs_neg (y -ℤ pos d *ℤ rnd y d),
      abs_neg y,
    )
    p)
    x

pub rnd_near : (x : ℤ) (d : ℕ) → 0 < d → 2 * nat_abs (x -ℤ pos d *ℤ rnd x d) ≤ d
rnd_near x d h =
    rw (rest_size x d) (omega (arith, rnd_size_low (nat_abs x) d, rnd_size_high (nat_abs x) d h))

-- ---- as code works it: no sum or product of the dividend that could pass the word

pub rnd_by_quotients : (a b : ℤ) → pos 0 <ℤ b → quot_z a b +ℤ quot_z (pos 2 *ℤ rem_z a b) b ≡ rnd a (nat_abs b)
rnd_by_quotients a (negsuc d) h = absurd h.lt
rnd_by_quotients a (pos d) h =
    by_sign (λ x. quot_z x (pos d) +ℤ quot_z (pos 2 *ℤ rem_z x (pos d)) (pos d) ≡ rnd x d)
    (λ n. rw (rnd_pos n d) (ap pos
    (sym (rnd_size_by_quotient (n / d) (n % d) d (mod-lt n (ltb→lt 0 d h.lt)))
    ∙ ap (λ m. rnd_size m d) (div-add-mod' n d))))
    (λ y p. simp (odd, rnd_neg) (ap neg_ℤ p)) a
