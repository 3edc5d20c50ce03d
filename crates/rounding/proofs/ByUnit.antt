-- `rnd_by_unit` of a product of two numbers: that the product fits, what the call asks, and what its answer is.
use mathlib.Core.Path.{◌≡◌}
use Prim.Native.Nat.{ℕ, ◌*◌, ◌≤◌}
use native.Mathlib.Nat.{le_trans}
use lib.Dec.{T, leb, leb→le}
use lib.IntN.{ℤ, nat_abs, ◌*ℤ◌}
use mir.Syntax.{w64}
use mir.Val.{SFits, to_z}
use Rattle.integers.specs.Size.{abs_mul_le}
use Rattle.rules.specs.Units.{unit}
use Rattle.rules.specs.Rounding.{rnd}
use Rattle.words.specs.Holds.{Holds, ◌*ʷ◌, mul_to, mul_to_ok}
use Rattle.rounding.specs.Given.{most_dividend}

module _ {m n : ℕ} {x y : ℤ} {a b : ℕ} (h : Holds m x a) (k : Holds n y b) (t : T (leb (a * b) most_dividend)) where
  size : nat_abs (x *ℤ y) ≤ most_dividend
  size = le_trans (abs_mul_le x y a b h.size k.size) (leb→le (a * b) most_dividend t)

  pub product_fits : SFits w64 (to_z w64 m *ℤ to_z w64 n)
  product_fits = mul_to_ok h k most_dividend size tt

  pub product_asked : nat_abs (to_z w64 (m *ʷ n)) ≤ most_dividend
  product_asked = rw (mul_to h k most_dividend size tt).value size

  pub product_rounded : {r : ℤ} → r ≡ rnd (to_z w64 (m *ʷ n)) unit → r ≡ rnd (x *ℤ y) unit
  product_rounded e = rw (mul_to h k most_dividend size tt).value at e
