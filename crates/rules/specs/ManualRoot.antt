-- 02, C-15: "Work it as the manual does, the first trial taken from the number of leading zeros." Definitions only.
use Rattle.std.specs.Prelude.{ℕ, ◌+◌, ◌-◌, ◌/◌, ◌^◌}
use Rattle.std.specs.Int.Count.{count_leading_zeros}
use Rattle.rules.specs.Length.{root_from}

-- how many binary digits a number below 2^64 has: 64 less its leading zeros
unfoldable pub binary_digits : ℕ → ℕ
binary_digits n = 64 - count_leading_zeros 64 n

-- a root has half as many, rounded up: so many powers of two are tried
unfoldable pub trials : ℕ → ℕ
trials n = (binary_digits n + 1) / 2

-- "the first trial": the highest of them, 2^(trials − 1); of nought none, and this is 0
unfoldable pub first_power : ℕ → ℕ
first_power n = 2 ^ trials n / 2

-- from the first power down to 1, each is kept or not
unfoldable pub manual_root : ℕ → ℕ
manual_root n = root_from (trials n) n 0
