-- The quotient toward zero and its remainder: odd in the dividend, sizes, ranges.
use Rattle.std.specs.Prelude.{◌≡◌, refl, ℕ, zero, suc, ◌/◌, ◌%◌, ◌≤◌, ◌<◌, ℤ, pos, negsuc, neg_ℤ, nat_abs, ◌<ℤ◌}
use Rattle.std.proofs.Common.{sym, mod-lt, div-le_self, ltb→lt}
use Rattle.std.proofs.Math.Nat.{zero-div, zero-mod}
use Rattle.std.proofs.Math.IntN.{neg_ℤ-neg_ℤ}
use Rattle.std.specs.Int.Signed.{quot_z, rem_z, mag}
use Rattle.integers.specs.Size.{abs_neg, mag_neg_le}

pub quot_neg : (x d : ℤ) → quot_z (neg_ℤ x) d ≡ neg_ℤ (quot_z x d)
quot_neg (pos zero) (pos n) = rw zero-div
quot_neg (pos zero) (negsuc n) = rw zero-div
quot_neg (pos (suc k)) (pos n) = refl
quot_neg (pos (suc k)) (negsuc n) = sym (neg_ℤ-neg_ℤ (pos (suc k / suc n)))
quot_neg (negsuc k) (pos n) = sym (neg_ℤ-neg_ℤ (pos (suc k / n)))
quot_neg (negsuc k) (negsuc n) = refl

pub rem_neg : (x d : ℤ) → rem_z (neg_ℤ x) d ≡ neg_ℤ (rem_z x d)
rem_neg (pos zero) d = rw zero-mod
rem_neg (pos (suc k)) d = refl
rem_neg (negsuc k) d = sym (neg_ℤ-neg_ℤ (pos (suc k % nat_abs d)))

pub abs_quot : (x d : ℤ) → nat_abs (quot_z x d) ≡ nat_abs x / nat_abs d
abs_quot (pos a) (pos n) = refl
abs_quot (pos a) (negsuc n) = abs_neg (pos (a / suc n))
abs_quot (negsuc a) (pos n) = abs_neg (pos (suc a / n))
abs_quot (negsuc a) (negsuc n) = refl

pub abs_rem : (x d : ℤ) → nat_abs (rem_z x d) ≡ nat_abs x % nat_abs d
abs_rem (pos a) d = refl
abs_rem (negsuc a) d = abs_neg (pos (suc a % nat_abs d))

pub size_pos : (d : ℤ) → pos 0 <ℤ d → 0 < nat_abs d
size_pos (pos n) h = ltb→lt 0 n h.lt
size_pos (negsuc n) h = absurd h.lt

pub rem_lt : (x d : ℤ) → 0 < nat_abs d → nat_abs (rem_z x d) < nat_abs d
rem_lt x d h = rw (abs_rem x d) (mod-lt (nat_abs x) h)

pub quot_le : (x d : ℤ) → nat_abs (quot_z x d) ≤ nat_abs x
quot_le x d = rw (abs_quot x d) (div-le_self (nat_abs x) (nat_abs d))

pub mag_quot : (x : ℤ) (n : ℕ) → mag (quot_z x (pos n)) ≤ mag x
mag_quot (pos a) n = div-le_self a n
mag_quot (negsuc a) n = mag_neg_le (suc a / n) a (div-le_self (suc a) n)
