-- Decimal digits: as many as a number has, and that they are the rule's `decimal`.
use Rattle.std.specs.Prelude.{◌≡◌, refl, Bool, true, false, cond, List, [], ◌∷◌, ◌++◌, ℕ, zero, suc, ◌+◌, ◌-◌, ◌*◌, ◌/◌, ◌%◌, ◌^◌, ◌≤◌, ◌<◌, ltb, length, ℤ, pos, negsuc, nat_abs}
use Rattle.std.proofs.Common.{sym, ap, ◌∙◌, append_assoc, arith, length-append, lt-ltb, le-ltb, ltb-true, ltb-false}
use Rattle.std.specs.Int.Signed.{lt_z}
use Rattle.rules.specs.Numerals.{nought, hyphen}
use Rattle.rules.specs.Times.{decimal_before, decimal}
use Rattle.laws.specs.Ranges.{true_not_false}

-- ---- how many digits

-- how many digits n has, at most k + 1
unfoldable pub width : ℕ → ℕ → ℕ
width zero n = 1
width (suc k) n = cond (ltb n 10) 1 (1 + width k (n / 10))

pub width_le : (k n : ℕ) → width k n ≤ k + 1
unfolding width
width_le zero n = omega arith
width_le (suc k) n = go (ltb n 10) (width_le k (n / 10))
  where
    go : (b : Bool) → width k (n / 10) ≤ k + 1 → cond b 1 (1 + width k (n / 10)) ≤ suc k + 1
    go true h = omega arith
    go false h = omega arith

-- one digit more to count, or none: k digits are counted, and r is left
pub width_step : (k r m : ℕ) → k < 19 → 10 ≤ r → k + width (19 - k) r ≡ m → (k + 1) + width (19 - (k + 1)) (r / 10) ≡ m
unfolding width
width_step k r m h l e =
    let q : 19 - k ≡ suc (19 - (k + 1)) = omega arith in
    let f = rw (q, le-ltb r 10 l) at e in
    omega arith

pub width_last : (k r m : ℕ) → k < 19 → r < 10 → k + width (19 - k) r ≡ m → k + 1 ≡ m
unfolding width
width_last k r m h l e = let q : 19 - k ≡ suc (19 - (k + 1)) = omega arith in rw (q, lt-ltb r 10 l) at e

pub width_end : (k r m : ℕ) → k ≡ 19 → k + width (19 - k) r ≡ m → k + 1 ≡ m
unfolding width
width_end k r m h e = let q : 19 - k ≡ 0 = omega arith in rw q at e

-- ---- the last digits

-- the last k digits of n, the first of them first
unfoldable pub last_digits : ℕ → ℕ → List ℕ
last_digits zero n = []
last_digits (suc k) n = last_digits k (n / 10) ++ ((nought + n % 10) ∷ [])

pub length_last_digits : (k n : ℕ) → length (last_digits k n) ≡ k
unfolding last_digits
length_last_digits zero n = refl
length_last_digits (suc k) n =
    length-append (last_digits k (n / 10)) ((nought + n % 10) ∷ []) ∙ omega (arith, length_last_digits k (n / 10))

-- 10 ^ (k + 1)
unfoldable pub limit : ℕ → ℕ
limit zero = 10
limit (suc k) = 10 * limit k

single : (n : ℕ) (rest : List ℕ) → n < 10 → (nought + n) ∷ rest ≡ last_digits 1 n ++ rest
unfolding last_digits
single n rest h = let q : n % 10 ≡ n = omega arith in rw q

one_more : (w n : ℕ) (rest : List ℕ)
    → last_digits w (n / 10) ++ ((nought + n % 10) ∷ rest) ≡ last_digits (1 + w) n ++ rest
unfolding last_digits
one_more w n rest =
    let q : 1 + w ≡ suc w = omega arith in
    rw q (sym (append_assoc (last_digits w (n / 10)) ((nought + n % 10) ∷ []) rest))

-- the rule's digits are the last ones, as many as the number has
before_is : (fuel k n : ℕ) (rest : List ℕ) → 0 < fuel → n ≤ fuel → n < limit k
    → decimal_before fuel n rest ≡ last_digits (width k n) n ++ rest
unfolding decimal_before width limit
before_is zero k n rest z h l = absurd (omega arith)
before_is (suc fuel) zero n rest z h l = rw (lt-ltb n 10 l) (single n rest l)
before_is (suc fuel) (suc k) n rest z h l =
    go (ltb n 10) refl (λ w x y. before_is fuel k (n / 10) ((nought + n % 10) ∷ rest) w x y)
  where
    go : (b : Bool) → ltb n 10 ≡ b
        → (0 < fuel → n / 10 ≤ fuel → n / 10 < limit k
        → decimal_before fuel (n / 10) ((nought + n % 10) ∷ rest) ≡ last_digits (width k (n / 10)) (n / 10)
        ++ ((nought + n % 10) ∷ rest))
        → cond b ((nought + n) ∷ rest) (decimal_before fuel (n / 10) ((nought + n % 10) ∷ rest))
        ≡ last_digits (cond b 1 (1 + width k (n / 10))) n ++ rest
    go true e f = single n rest (ltb-true n 10 e)
    go false e f =
        let g = ltb-false n 10 e in
        f (omega arith) (omega arith) (omega arith) ∙ one_more (width k (n / 10)) n rest

append_none : (l : List ℕ) → l ++ [] ≡ l
append_none [] = refl
append_none (a ∷ l) = ap (λ m. a ∷ m) (append_none l)

-- digits enough for 64 bits
pub digits_enough : (n : ℕ) → n < limit 18 → decimal_before (suc n) n [] ≡ last_digits (width 18 n) n
digits_enough n h = before_is (suc n) 18 n [] (omega arith) (omega arith) h ∙ append_none (last_digits (width 18 n) n)

pub decimal_pos : (z : ℤ) → nat_abs z < limit 18 → lt_z z (pos 0) ≡ false → decimal z
    ≡ last_digits (width 18 (nat_abs z)) (nat_abs z)
unfolding decimal
decimal_pos (pos n) h e = digits_enough n h
decimal_pos (negsuc n) h e = true_not_false e

pub decimal_neg : (z : ℤ) → nat_abs z < limit 18 → lt_z z (pos 0) ≡ true
    → decimal z ≡ hyphen ∷ last_digits (width 18 (nat_abs z)) (nat_abs z)
unfolding decimal
decimal_neg (pos n) h e = absurd (omega (arith, ltb-true n 0 e))
decimal_neg (negsuc n) h e = ap (λ l. hyphen ∷ l)
    (before_is (suc n) 18 (suc n) [] (omega arith) (omega arith) h ∙ append_none _)

-- ---- how long it is

pub length_decimal : (z : ℤ) → nat_abs z < limit 18 → length (decimal z) ≤ 20
length_decimal z h = go (lt_z z (pos 0)) refl
  where
    go : (b : Bool) → lt_z z (pos 0) ≡ b → length (decimal z) ≤ 20
    go true e =
        rw (decimal_neg z h e)
        (omega (arith, length_last_digits (width 18 (nat_abs z)) (nat_abs z), width_le 18 (nat_abs z)))
    go false e =
        rw (decimal_pos z h e)
        (omega (arith, length_last_digits (width 18 (nat_abs z)) (nat_abs z), width_le 18 (nat_abs z)))

-- a number of 64 bits has digits enough
pub word_limit : (z : ℤ) → nat_abs z ≤ 2 ^ 63 → nat_abs z < limit 18
unfolding limit
word_limit z h = omega arith
