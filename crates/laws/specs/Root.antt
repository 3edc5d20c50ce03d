-- The whole root, downward: what it is known by, and that no second number is it.
use Rattle.std.specs.Prelude.{◌≡◌, ℕ, zero, suc, ◌+◌, ◌*◌, ◌≤◌, ◌<◌, ◌^◌, Bool, true, false, not, cond, T, leb}
use Rattle.std.proofs.Common.{leb→le, mul-le-mul, le_antisymm, lt_of_not-le, arith}
use Rattle.std.proofs.Math.Dec.{nleb→lt}
use Rattle.std.proofs.Math.Nat.{two-pow-succ}
use Rattle.std.proofs.Math.Decide.{dec_le}
use Rattle.integers.specs.Square.{le_of_square_le}
use Rattle.rules.specs.Length.{root, root_from}

-- r is the root of n: its square is at most n, and the next square is above
pub record Root (n r : ℕ) : Type 0 where
  pub below : r * r ≤ n
  pub above : n < (r + 1) * (r + 1)

lower : (n r s : ℕ) → Root n r → Root n s → r ≤ s
lower n r s p q = by (dec_le r s)
  where
    by : Dec (r ≤ s) → r ≤ s
    by (yes h) = h
    by (no h) =
        let k : s + 1 ≤ r = omega (arith, lt_of_not-le h) in
        absurd (omega (arith, mul-le-mul k k, q.above, p.below))

pub root_one : (n r s : ℕ) → Root n r → Root n s → r ≡ s
root_one n r s p q = le_antisymm (lower n r s p q) (lower n s r q p)

pub from_root : (k n low : ℕ) → low * low ≤ n → n < (low + 2 ^ k) * (low + 2 ^ k) → Root n (root_from k n low)
unfolding root_from
from_root zero n low h g = record { below = h; above = g }
from_root (suc k) n low h g =
    by (λ l. from_root k n l) (leb ((low + 2 ^ k) * (low + 2 ^ k)) n)
    (leb→le ((low + 2 ^ k) * (low + 2 ^ k)) n) (nleb→lt ((low + 2 ^ k) * (low + 2 ^ k)) n)
  where
    g' : n < (low + (2 ^ k + 2 ^ k)) * (low + (2 ^ k + 2 ^ k))
    g' = rw (two-pow-succ k) at g

    by : ((l : ℕ) → l * l ≤ n → n < (l + 2 ^ k) * (l + 2 ^ k) → Root n (root_from k n l))
        → (b : Bool) → (T b → (low + 2 ^ k) * (low + 2 ^ k) ≤ n) → (T (not b) → n < (low + 2 ^ k) * (low + 2 ^ k))
        → Root n (root_from k n (cond b (low + 2 ^ k) low))
    by next true f e = next (low + 2 ^ k) (f tt) (omega (arith, g'))
    by next false f e = next low h (e tt)

-- the rule meets it
pub root_root : (n : ℕ) → n < 2 ^ 64 → Root n (root n)
unfolding root
root_root n h = from_root 32 n 0 (omega arith) (omega arith)

-- what meets it is the rule's
pub is_root : (n r : ℕ) → n < 2 ^ 64 → Root n r → r ≡ root n
is_root n r h p = root_one n r (root n) p (root_root n h)

-- a root is below m where m² is above n
pub root_lt : (n m : ℕ) → n < 2 ^ 64 → n < m * m → root n < m
root_lt n m h k = by (dec_le m (root n))
  where
    by : Dec (m ≤ root n) → root n < m
    by (yes l) = absurd (omega (arith, mul-le-mul l l, (root_root n h).below))
    by (no l) = lt_of_not-le l

-- and no less than m where m² is at most n
pub root_ge : (n m : ℕ) → n < 2 ^ 64 → m * m ≤ n → m ≤ root n
root_ge n m h k = by (dec_le m (root n))
  where
    by : Dec (m ≤ root n) → m ≤ root n
    by (yes l) = l
    by (no l) =
        let g : root n + 1 ≤ m = omega (arith, lt_of_not-le l) in
        absurd (omega (arith, mul-le-mul g g, (root_root n h).above))

pub root_le : (n m : ℕ) → n < 2 ^ 64 → n ≤ m * m → root n ≤ m
root_le n m h k = le_of_square_le (root n) m (omega (arith, (root_root n h).below))
