-- Powers of a natural number: a definition of their own, so that a large power stays shut.
use Rattle.std.specs.Prelude.{◌≡◌, refl, ℕ, zero, suc, ◌+◌, ◌*◌}
use Rattle.std.proofs.Common.{sym, zero-add, suc-add, arith}

unfoldable pub power : ℕ → ℕ → ℕ
power o zero = 1
power o (suc e) = o * power o e

pub power_add : (o m e : ℕ) → power o (m + e) ≡ power o m * power o e
unfolding power
power_add o zero e = rw (zero-add e) (omega arith)
power_add o (suc m) e = rw (suc-add m e, power_add o m e) (omega arith)

pub power_mul : (a b e : ℕ) → power (a * b) e ≡ power a e * power b e
unfolding power
power_mul a b zero = refl
power_mul a b (suc e) = rw (power_mul a b e) (omega arith)

pub power_suc : (o e : ℕ) → power o (suc e) ≡ o * power o e
unfolding power
power_suc o e = refl

pub power_power : (o m n : ℕ) → power (power o m) n ≡ power o (n * m)
unfolding power
power_power o m zero = rw (none m)
  where
    none : (m : ℕ) → zero * m ≡ 0
    none m = omega arith
power_power o m (suc n) = rw (power_power o m n, more n m) (sym (power_add o m (n * m)))
  where
    more : (n m : ℕ) → suc n * m ≡ m + n * m
    more n m = omega arith
