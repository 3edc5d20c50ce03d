-- A number near the square of 2^30, as the squares' sum of a pair or of a direction is.
use Rattle.std.specs.Prelude.{ℕ, ◌+◌, ◌*◌, ◌-◌, ◌≤◌, ◌<◌, ◌^◌, ◌≡◌, ℤ, pos, nat_abs}

-- n is from (2^30 - w)² to less than (2^30 + w)², which is 2^32 w above it: its root lies within w of 2^30
pub record RootWithin (w : ℕ) (n : ℤ) : Type 0 where
  pub is : n ≡ pos (nat_abs n)
  pub low : (2 ^ 30 - w) * (2 ^ 30 - w) ≤ nat_abs n
  pub high : nat_abs n < (2 ^ 30 - w) * (2 ^ 30 - w) + 2 ^ 32 * w

abbrev pub NearSquare : ℤ → Type 0
NearSquare n = RootWithin 64 n
