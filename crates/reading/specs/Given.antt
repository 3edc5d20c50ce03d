-- What the private functions ask of their numbers, by name: each is met for every reading.
use Rattle.std.specs.Prelude.{◌+◌, ◌≤◌, ◌<◌, ◌^◌, ℤ, nat_abs}
use Rattle.laws.specs.UpTo.{UpTo}

-- two sizes, the smaller first, the larger not nought
pub record OctantGiven (m n : ℤ) : Type 0 where
  pub m_range : UpTo m (2 ^ 31)
  pub n_range : UpTo n (2 ^ 31)
  pub n_pos : 0 < nat_abs n
  pub m_le_n : nat_abs m ≤ nat_abs n

-- two sizes, not both nought
pub record SizesGiven (h v : ℤ) : Type 0 where
  pub h_range : UpTo h (2 ^ 31)
  pub v_range : UpTo v (2 ^ 31)
  pub some : 0 < nat_abs h + nat_abs v

-- two numbers of 32 bits, not both nought
pub record ReadingGiven (h v : ℤ) : Type 0 where
  pub h_le : nat_abs h ≤ 2 ^ 31
  pub v_le : nat_abs v ≤ 2 ^ 31
  pub some : 0 < nat_abs h + nat_abs v
