-- Rows of digits: how large a number they spell, and which rows spell a number of 64 bits.
use Rattle.std.specs.Prelude.{◌≡◌, refl, Bool, true, false, ◌&&◌, List, [], ◌∷◌, ℕ, zero, suc, ◌+◌, ◌-◌, ◌*◌, ◌^◌, ◌≤◌, ◌<◌, leb, ltb, length, get_or, drop}
use Rattle.std.proofs.Common.{sym, ◌∙◌, mul-le-mul_right, arith, leb-true, ltb-true, ltb-false}
use Rattle.std.proofs.Math.Nat.{pow-succ'}
use Rattle.rules.specs.Numerals.{nought, is_digit, digits, alike, of_form, of_digits, spelled}
use Rattle.laws.specs.Ranges.{both_true}
use Rattle.laws.specs.Lines.{of_digits_le, spelled_step, most, most_le_12}

-- ---- how large

pub digit_le : (b : ℕ) → is_digit b ≡ true → b - nought ≤ 9
unfolding is_digit
digit_le b e = omega (arith, leb-true b 57 (both_true (leb nought b) (leb b 57) e).1)

-- one digit more
digit_more : (s n d p : ℕ) → d ≤ 9 → s < (10 * n + d + 1) * p → s < (n + 1) * (10 * p)
digit_more s n d p h k = omega (arith, mul-le-mul_right p h)

form_lt : (n : ℕ) (bs : List ℕ) → of_form (digits (length bs)) bs ≡ true → spelled n bs < (n + 1) * 10 ^ length bs
unfolding spelled of_form alike is_digit
form_lt n [] e = omega arith
form_lt n (b ∷ bs) e =
    let u = both_true (is_digit b) (of_form (digits (length bs)) bs) e in
    let d = b - nought in
    rw (pow-succ' 10 (length bs))
    (digit_more _ n d (10 ^ length bs) (digit_le b u.0) (form_lt (10 * n + d) bs u.1))

pow_le : (k m : ℕ) → k ≤ m → 10 ^ k ≤ 10 ^ m
pow_le zero zero h = omega arith
pow_le zero (suc m) h = rw (pow-succ' 10 m) (omega (arith, pow_le zero m (omega arith)))
pow_le (suc k) zero h = absurd (omega arith)
pow_le (suc k) (suc m) h = rw (pow-succ' 10 k, pow-succ' 10 m) (omega (arith, pow_le k m (omega arith)))

pub digits_lt : (most : ℕ) (bs : List ℕ) → of_digits most bs ≡ true → spelled 0 bs < 10 ^ most
unfolding of_digits
digits_lt most bs e =
    let u = both_true (leb 1 (length bs) && leb (length bs) most) (of_form (digits (length bs)) bs) e in
    omega (arith, form_lt 0 bs u.1, pow_le (length bs) most (of_digits_le most bs e).1)

-- ---- in 64 bits

-- any 12 bytes spell a number of 64 bits, and so do 18 digits
abbrev pub Spellable : List ℕ → Type 0
Spellable bs = 12 < length bs → of_digits 18 bs ≡ true

pub few_spellable : (bs : List ℕ) → length bs ≤ 12 → Spellable bs
few_spellable bs h k = absurd (omega arith)

-- more digits make no less
spelled_ge : (n : ℕ) (bs : List ℕ) → n ≤ spelled n bs
unfolding spelled
spelled_ge n [] = omega arith
spelled_ge n (b ∷ bs) = omega (arith, spelled_ge (10 * n + (b - nought)) bs)

module _ (bs : List ℕ) (f : Spellable bs) where
  long_lt : 12 < length bs → spelled 0 bs < 10 ^ 18
  long_lt h = digits_lt 18 bs (f h)

  -- ten times the number so far, before its next byte
  pub tens_le : (i n : ℕ) → i < length bs → n ≤ most i → spelled n (drop i bs) ≡ spelled 0 bs → 10 * n ≤ 10 ^ 18
  tens_le i n h k e = go (ltb 12 (length bs)) refl
    where
      go : (t : Bool) → ltb 12 (length bs) ≡ t → 10 * n ≤ 10 ^ 18
      go true t =
          let m : ℕ = 10 * n + (get_or bs i 0 - nought) in
          omega (
            arith,
            spelled_ge m (drop (i + 1) bs),
            sym (spelled_step bs i n h) ∙ e,
            digits_lt 18 bs (f (ltb-true 12 (length bs) t)),
          )
      go false t = let l = ltb-false 12 (length bs) t in omega (arith, most_le_12 i (omega arith))

  -- the number in all
  pub all_le : spelled 0 bs ≤ most (length bs) → spelled 0 bs ≤ 10 ^ 18
  all_le h = go (ltb 12 (length bs)) refl
    where
      go : (t : Bool) → ltb 12 (length bs) ≡ t → spelled 0 bs ≤ 10 ^ 18
      go true t = omega (arith, digits_lt 18 bs (f (ltb-true 12 (length bs) t)))
      go false t = omega (arith, most_le_12 (length bs) (ltb-false 12 (length bs) t))
