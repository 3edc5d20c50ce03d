-- Rounding of a size by half of the divisor more, rounded down.
use mathlib.Core.Path.{◌≡◌, sym}
use Prim.Native.Nat.{ℕ, ◌+◌, ◌/◌, ◌<◌}
use native.Mathlib.Nat.{lt-div-mul-add, div-mul-le_self}
use native.Mathlib.Omega.{arith}
use Rattle.rules.specs.Rounding.{rnd_size}
use Rattle.laws.specs.Rounding.{rnd_size_is}

pub rnd_size_by_half : (n d : ℕ) → 0 < d → (n + d / 2) / d ≡ rnd_size n d
rnd_size_by_half n d h =
    sym (rnd_size_is n d ((n + d / 2) / d)
    (omega (arith, div-mul-le_self (n + d / 2) d))
    (omega (arith, lt-div-mul-add {a = n + d / 2} {b = d} h)))
