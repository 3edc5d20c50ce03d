-- The trials of the whole root: what one is given, what several begin from, and where the first may be left out.
use Rattle.std.specs.Prelude.{ℕ, ◌+◌, ◌*◌, ◌/◌, ◌≤◌, ◌^◌, ◌≡◌, ℤ, pos, nat_abs, ◌≤ℤ◌}
use Rattle.rules.specs.Length.{root, root_from}
use Rattle.roots.specs.NearSquare.{RootWithin}

-- no number is negative, and the root so far and the power are no larger than any that is tried of an i64
pub record Trial (n low power : ℤ) : Type 0 where
  pub number : pos 0 ≤ℤ n
  pub low_is : low ≡ pos (nat_abs low)
  pub power_is : power ≡ pos (nat_abs power)
  pub within : nat_abs low + nat_abs power ≤ 2 ^ 32

-- m trials are left, from 2^(m − 1) down, and make the root
pub record Left (n low power m : ℕ) : Type 0 where
  pub is : power ≡ 2 ^ m / 2
  pub le : m ≤ 32
  pub within : low + 2 ^ m ≤ 2 ^ 32
  pub makes : root_from m n low ≡ root n

-- some number of them is
pub record Begun (n low power : ℤ) : Type 0 where
  pub number : pos 0 ≤ℤ n
  pub low_is : low ≡ pos (nat_abs low)
  pub power_is : power ≡ pos (nat_abs power)
  pub trials : ℕ
  pub left : Left (nat_abs n) (nat_abs low) (nat_abs power) trials

-- the root of n lies within w of 2^30, and so many trials are enough
pub record Stepped (n w power : ℤ) : Type 0 where
  pub near : RootWithin (nat_abs w) n
  pub w_is : w ≡ pos (nat_abs w)
  pub w_le : nat_abs w ≤ 2 ^ 18
  pub power_is : power ≡ pos (nat_abs power)
  pub trials : ℕ
  pub half : nat_abs power ≡ 2 ^ trials / 2
  pub trials_le : trials ≤ 6
  pub enough : nat_abs w * nat_abs w + 2 ^ 31 ≤ 2 ^ 31 * 2 ^ trials
