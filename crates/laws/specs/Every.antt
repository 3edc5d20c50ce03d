-- A test that is computed at each number below a bound, and what it tells of each.
use Rattle.std.specs.Prelude.{◌≡◌, refl, Bool, true, false, ◌&&◌, ℕ, zero, suc, ◌<◌, T, ltb}
use Rattle.std.proofs.Common.{arith, ltb-true, ltb-false}
use Rattle.std.proofs.Math.Facts.{and_yes}

abbrev pub every : (ℕ → Bool) → ℕ → Bool
every f zero = true
every f (suc n) = f n && every f n

pub every_at : (f : ℕ → Bool) (n k : ℕ) → T (every f n) → k < n → T (f k)
every_at f zero k t h = absurd (omega arith)
every_at f (suc n) k t h = go (ltb k n) refl (λ l. every_at f n k (and_yes (f n) (every f n) t).1 l)
  where
    go : (b : Bool) → ltb k n ≡ b → (k < n → T (f k)) → T (f k)
    go true e rec = rec (ltb-true k n e)
    go false e rec = let q : k ≡ n = omega (arith, ltb-false k n e) in rw q (and_yes (f n) (every f n) t).0
