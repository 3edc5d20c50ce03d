-- The last digits of a number, from the last on; and how many digits it has.
use Rattle.std.specs.Prelude.{◌≡◌, refl, List, [], ◌∷◌, ◌++◌, ℕ, zero, suc, ◌+◌, ◌-◌, ◌*◌, ◌/◌, ◌%◌, ◌^◌, ◌≤◌, ◌<◌, reverse}
use Rattle.std.proofs.Common.{◌∙◌, arith, append_assoc, lt-ltb, le-ltb}
use Rattle.std.proofs.Math.Nat.{pow-succ'}
use Rattle.std.proofs.lemmas.List.{reverse-append}
use Rattle.laws.specs.Decimal.{last_digits, width}

-- k digits of n are left to put after those that are there
abbrev pub with_left : List ℕ → ℕ → ℕ → List ℕ
with_left there k n = there ++ reverse (last_digits k n)

pub left_none : (there : List ℕ) (k n : ℕ) → k ≤ 0 → with_left there k n ≡ there ++ []
unfolding last_digits
left_none there zero n h = refl
left_none there (suc k) n h = absurd (omega arith)

pub left_more : (there : List ℕ) (k n : ℕ) → 0 < k
    → with_left (there ++ (48 + n % 10) ∷ []) (k - 1) (n / 10) ≡ with_left there k n
unfolding last_digits
left_more there zero n h = absurd (omega arith)
left_more there (suc k) n h =
    let q : suc k - 1 ≡ k = omega arith in
    rw (q, reverse-append (last_digits k (n / 10)) ((48 + n % 10) ∷ []))
    (append_assoc there ((48 + n % 10) ∷ []) (reverse (last_digits k (n / 10))))

-- n has k + 1 digits where it is at least 10 ^ k, and below ten times that
pub width_is : (k most n : ℕ) → k ≤ most → 10 ^ k ≤ n → n < 10 * 10 ^ k → width most n ≡ 1 + k
unfolding width
width_is zero zero n h l m = refl
width_is zero (suc most) n h l m = rw (lt-ltb n 10 m) refl
width_is (suc k) zero n h l m = absurd (omega arith)
width_is (suc k) (suc most) n h l m =
    let p = pow-succ' 10 k in
    let q = width_is k most (n / 10) (omega arith) (omega arith) (omega arith) in
    rw (le-ltb n 10 (omega arith)) (omega arith)

-- one digit where a tenth is nought
pub width_one : (n : ℕ) → n / 10 ≡ 0 → width 18 n ≡ 1
unfolding width
width_one n h = rw (lt-ltb n 10 (omega arith)) refl

-- else one more than the tenth has
pub width_more : (k n : ℕ) → k ≤ 17 → 10 ^ k ≤ n / 10 → n / 10 < 10 * 10 ^ k → width 18 n ≡ k + 2
width_more k n h l m =
    let p = pow-succ' 10 k in
    width_is (suc k) 18 n (omega arith) (omega arith) (omega arith) ∙ omega arith
