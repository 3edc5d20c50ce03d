-- The machine's comparison of two floats is that of their exact values, and two comparisons decide `lies`.
use Rattle.std.specs.Prelude.{◌≡◌, refl, Bool, true, false, not, ◌&&◌, ◌||◌, [], ◌∷◌, ℕ, zero, suc, ◌+◌, ◌*◌, ◌<◌, ◌^◌, ltb, eqb, ℤ, pos, ◌*ℤ◌, Float}
use Rattle.std.proofs.Common.{sym, zero-mul, zero-add, arith, lt-ltb, le-ltb, eq-eqb, ne_eqb}
use Rattle.std.proofs.Math.Decide.{dec_lt}
use Rattle.std.proofs.Math.Dec.{leb-suc-suc, eqb-suc-suc}
use Rattle.std.specs.Int.Signed.{lt_z}
use Rattle.std.specs.Float.{nan, inf, fin}
use Rattle.std.specs.Float.Ieee.{up, down, below, level, lt, eq, le}
use Rattle.integers.specs.Ring.{ring, v0, lit, ◌⊗◌}
use Rattle.rules.specs.Units.{between}
use Rattle.laws.specs.Ranges.{true_not_false}
use Rattle.rules.specs.Floats.{with_sign, finite, numerator, denominator, lies}

-- the three tests of two naturals, in the three cases
three : (P : Bool → Bool → Bool → Type 0) (a b : ℕ)
    → (a < b → P true false false) → (a ≡ b → P false true false) → (b < a → P false false true)
    → P (ltb a b) (eqb a b) (ltb b a)
three P a b f g h = go (dec_lt a b) (dec_lt b a)
  where
    go : Dec (a < b) → Dec (b < a) → P (ltb a b) (eqb a b) (ltb b a)
    go (yes k) d =
        rw (lt-ltb a b k, ne_eqb a b (λ e. omega arith), le-ltb b a (omega arith)) (f k)
    go (no k) (yes l) =
        rw (le-ltb a b (omega arith), ne_eqb a b (λ e. omega arith), lt-ltb b a l) (h l)
    go (no k) (no l) =
        let e : a ≡ b = omega arith in
        rw (le-ltb a b (omega arith), eq-eqb a b e, le-ltb b a (omega arith)) (g e)

-- sizes with signs
signs_le : (s t : Bool) (a b : ℕ) → (below s a t b || level s a t b) ≡ not (lt_z (with_sign t b) (with_sign s a))
unfolding with_sign
signs_le false false a b = three (λ l e g. (l || (e && true)) ≡ not g) a b (λ h. refl) (λ h. refl) (λ h. refl)
signs_le false true a zero =
    three (λ l e g. (e && e) ≡ not g) a zero (λ h. absurd (omega arith)) (λ h. refl) (λ h. refl)
signs_le false true a (suc b) =
    three (λ l e g. (eqb a (suc b) && e) ≡ false) a zero (λ h. absurd (omega arith))
    (λ h. rw (ne_eqb a (suc b) (λ e. omega arith))) (λ h. rw (and_false (eqb a (suc b))))
  where
    and_false : (x : Bool) → (x && false) ≡ false
    and_false true = refl
    and_false false = refl
signs_le true false zero b =
    rw (zero-add b)
    (three (λ l e g. (l || (e && true)) ≡ not g) zero b (λ h. refl) (λ h. refl) (λ h. absurd (omega arith)))
signs_le true false (suc a) b = rw (lt-ltb 0 (suc a + b) (omega arith))
signs_le true true zero zero = refl
signs_le true true zero (suc b) = rw (le-ltb (suc b) 0 (omega arith), ne_eqb 0 (suc b) (λ e. omega arith))
signs_le true true (suc a) zero = rw (lt-ltb 0 (suc a) (omega arith))
signs_le true true (suc a) (suc b) =
    rw (leb-suc-suc (suc b) a, eqb-suc-suc a b)
    (three (λ l e g. (g || (e && true)) ≡ not l) a b (λ h. refl) (λ h. refl) (λ h. refl))

with_sign_mul : (s : Bool) (a c : ℕ) → with_sign s a *ℤ pos c ≡ with_sign s (a * c)
unfolding with_sign
with_sign_mul false a c = refl
with_sign_mul true zero c = rw (zero-mul c)
with_sign_mul true (suc a) c = refl

-- a ≤ b, where neither is a NaN or an infinity
pub le_is : (x y : Float) → finite x ≡ true → finite y ≡ true
    → le x y ≡ not (lt_z (numerator y *ℤ pos (denominator x)) (numerator x *ℤ pos (denominator y)))
unfolding le lt eq finite numerator denominator
le_is nan y h k = true_not_false (sym h)
le_is (inf s) y h k = true_not_false (sym h)
le_is (fin s m e) nan h k = true_not_false (sym k)
le_is (fin s m e) (inf t) h k = true_not_false (sym k)
le_is (fin s m e) (fin t n d) h k =
    rw (with_sign_mul t (n * up d) (down e), with_sign_mul s (m * up e) (down d))
    (signs_le s t (m * up e * down d) (n * up d * down e))

by_one : (z : ℤ) → z *ℤ pos 1 ≡ z
by_one z = ring (z ∷ []) (v0 ⊗ lit (pos 1)) v0 tt

finite_tests : (s t : Bool) (m n j k : ℕ) (x : Float) → finite x ≡ true
    → (le (fin s m (pos j)) x && le x (fin t n (pos k))) ≡ lies (with_sign s (m * 2 ^ j)) (with_sign t (n * 2 ^ k)) x
unfolding lies between finite numerator denominator
finite_tests s t m n j k x h =
    let N = numerator x in
    let D = pos (denominator x) in
    let low : le (fin s m (pos j)) x ≡ not (lt_z (N *ℤ pos 1) (with_sign s (m * 2 ^ j) *ℤ D)) =
    le_is (fin s m (pos j)) x refl h in
    let high : le x (fin t n (pos k)) ≡ not (lt_z (with_sign t (n * 2 ^ k) *ℤ D) (N *ℤ pos 1)) =
    le_is x (fin t n (pos k)) h refl in
    rw (low, high, h, by_one N)

-- from the whole number m 2^j to the whole number n 2^k, by two comparisons; no NaN and no infinity passes both
pub lies_by_tests : (s t : Bool) (m n j k : ℕ) (x : Float)
    → (le (fin s m (pos j)) x && le x (fin t n (pos k))) ≡ lies (with_sign s (m * 2 ^ j)) (with_sign t (n * 2 ^ k)) x
unfolding le lt eq lies finite
lies_by_tests s t m n j k nan = refl
lies_by_tests s t m n j k (inf true) = refl
lies_by_tests s t m n j k (inf false) = refl
lies_by_tests s t m n j k (fin u o e) = finite_tests s t m n j k (fin u o e) refl
