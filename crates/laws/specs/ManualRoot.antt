-- The whole root as the manual works it: that it is the rule's, and that as many powers are tried as it has binary
-- digits.
use Rattle.std.specs.Prelude.{◌≡◌, ℕ, zero, suc, ◌+◌, ◌*◌, ◌/◌, ◌≤◌, ◌<◌, ◌^◌}
use Rattle.std.proofs.Common.{◌∙◌, sym, subst, le_antisymm, lt_of_lt_of_le, lt_of_not-le, zero-add, arith, pow-add, pow_mono, pow_pos}
use Rattle.std.proofs.Math.Nat.{two-pow-succ}
use Rattle.std.proofs.Math.Decide.{dec_le}
use Rattle.std.proofs.lemmas.Nat.{leading_length}
use Rattle.rules.specs.Length.{root}
use Rattle.rules.specs.ManualRoot.{binary_digits, trials, first_power, manual_root}
use Rattle.laws.specs.Root.{from_root, is_root, root_ge, root_lt}

-- ---- binary digits

-- m is how many binary digits n has
pub record Digits (n m : ℕ) : Type 0 where
  pub below : n < 2 ^ m
  pub highest : 2 ^ m ≤ 2 * n + 1

-- the rule meets it
pub digits_digits : (n : ℕ) → n < 2 ^ 64 → Digits n (binary_digits n)
unfolding binary_digits
digits_digits n h =
    let l = leading_length 64 n h in
    subst (λ m. Digits n m) (omega (arith, l.1)) (record { below = l.2; highest = l.3 })

shorter : (n k m : ℕ) → Digits n k → Digits n m → k ≤ m
shorter n k m p q = by (dec_le k m)
  where
    by : Dec (k ≤ m) → k ≤ m
    by (yes h) = h
    by (no h) =
        let longer : 2 ^ suc m ≤ 2 ^ k = pow_mono {i = suc m} {j = k} (omega (arith, lt_of_not-le h)) in
        absurd (omega (arith, longer, two-pow-succ m, p.highest, q.below))

-- and no second number does
pub is_digits : (n m : ℕ) → n < 2 ^ 64 → Digits n m → binary_digits n ≡ m
is_digits n m h p =
    let d = digits_digits n h in
    le_antisymm (shorter n (binary_digits n) m d p) (shorter n m (binary_digits n) p d)

-- half of 2^m has m
pub power_digits : (m : ℕ) → m ≤ 64 → binary_digits (2 ^ m / 2) ≡ m
power_digits m h =
    let fits : 2 ^ m ≤ 2 ^ 64 = pow_mono h in
    let some = pow_pos m in
    is_digits (2 ^ m / 2) m (omega arith) (record { below = omega arith; highest = omega arith })

-- ---- the trials

pub trials_le : (n : ℕ) → trials n ≤ 32
unfolding trials binary_digits
trials_le n = omega arith

-- no root has more digits than are tried
pub below_first : (n : ℕ) → n < 2 ^ 64 → n < 2 ^ trials n * 2 ^ trials n
unfolding trials
below_first n h =
    let k = trials n in
    let fits : 2 ^ binary_digits n ≤ 2 ^ (k + k) = pow_mono {i = binary_digits n} {j = k + k} (omega arith) in
    subst (λ m. n < m) (pow-add 2 k k) (lt_of_lt_of_le (digits_digits n h).below fits)

-- the manual's root is the rule's
pub manual_root_lem : (n : ℕ) → n < 2 ^ 64 → manual_root n ≡ root n
unfolding manual_root
manual_root_lem n h = is_root n (manual_root n) h
    (from_root (trials n) n 0 (omega arith) (rw (zero-add (2 ^ trials n)) (below_first n h)))

-- as many trials as the root has binary digits
root_has : (n : ℕ) → n < 2 ^ 64 → Digits (root n) (trials n)
unfolding trials
root_has n h = record {
  below = root_lt n (2 ^ trials n) h (below_first n h);
  highest = highest (trials n) (omega arith);
}
  where
    highest : (k : ℕ) → k + k ≤ binary_digits n + 1 → 2 ^ k ≤ 2 * root n + 1
    highest zero l = omega arith
    highest (suc i) l =
        let fits : 2 ^ suc (i + i) ≤ 2 ^ binary_digits n =
        pow_mono {i = suc (i + i)} {j = binary_digits n} (omega arith) in
        let square : 2 ^ i * 2 ^ i ≤ n =
        omega (arith, fits, two-pow-succ (i + i), pow-add 2 i i, (digits_digits n h).highest) in
        omega (arith, root_ge n (2 ^ i) h square, two-pow-succ i)

pub root_digits : (n : ℕ) → n < 2 ^ 64 → binary_digits (root n) ≡ trials n
root_digits n h = is_digits (root n) (trials n) (omega (arith, root_lt n (2 ^ 32) h (omega arith))) (root_has n h)

-- the power that is tried first is the root's highest digit
pub first_is_highest : (n : ℕ) → 0 < n → n < 2 ^ 64 → (first_power n ≤ root n) × (root n < 2 * first_power n)
unfolding first_power
first_is_highest n p h = by (trials n) (root_has n h)
  where
    by : (m : ℕ) → Digits (root n) m → (2 ^ m / 2 ≤ root n) × (root n < 2 * (2 ^ m / 2))
    by zero d = absurd (omega (arith, d.below, root_ge n 1 h (omega arith)))
    by (suc m) d = (omega (arith, d.highest, two-pow-succ m), omega (arith, d.below, two-pow-succ m))

-- and has as many
pub first_digits : (n : ℕ) → n < 2 ^ 64 → binary_digits (first_power n) ≡ binary_digits (root n)
unfolding first_power
first_digits n h = power_digits (trials n) (omega (arith, trials_le n)) ∙ sym (root_digits n h)
