-- The line of `times`: how it is read byte by byte, how long it can be, and that it is told by its first 30 bytes.
use Rattle.std.specs.Prelude.{◌≡◌, refl, Bool, true, false, cond, ◌&&◌, List, [], ◌∷◌, ℕ, zero, suc, ◌+◌, ◌-◌, ◌*◌, ◌^◌, ◌≤◌, ◌<◌, eqb, leb, ltb, length, take, drop, get_or, None}
use Rattle.std.proofs.Common.{sym, ap, ◌∙◌, add-one, arith, leb→le, length-take, length-drop, drop-cons, take_all, leb-true, le-leb, ltb-true, ltb-false}
use Rattle.std.proofs.lemmas.List.{length-replicate}
use Rattle.std.proofs.lemmas.Bool.{lt-leb}
use Rattle.rules.specs.Numerals.{nought, hyphen, is_digit, digits, alike, of_form, negative, unsigned, of_digits}
use Rattle.rules.specs.Lines.{form}
use Rattle.rules.specs.Numerals.{of_number, spelled}
use Rattle.rules.specs.Lines.{line_of}
use Rattle.laws.specs.Every.{every_at}
use Rattle.laws.specs.Ranges.{both_true, true_not_false}

-- ---- a form and bytes, one by one

pub form_step : (fs bs : List ℕ) (i : ℕ) → i < length fs → i < length bs
    → of_form (drop i fs) (drop i bs) ≡ alike (get_or fs i 0) (get_or bs i 0) && of_form (drop (i + 1) fs) (drop (i + 1) bs)
unfolding of_form
form_step fs bs i h k = rw (add-one i, drop-cons fs i 0 h, drop-cons bs i 0 k)

-- bytes of a form are as many as it has
pub form_length : (fs bs : List ℕ) → of_form fs bs ≡ true → length fs ≡ length bs
unfolding of_form
form_length [] [] e = refl
form_length [] (b ∷ bs) e = true_not_false (sym e)
form_length (f ∷ fs) [] e = true_not_false (sym e)
form_length (f ∷ fs) (b ∷ bs) e = ap suc (form_length fs bs (both_true (alike f b) (of_form fs bs) e).1)

pub form_short : (fs bs : List ℕ) → length bs < length fs → of_form fs bs ≡ false
form_short fs bs h = go (of_form fs bs) refl
  where
    go : (b : Bool) → of_form fs bs ≡ b → of_form fs bs ≡ false
    go true e = absurd (omega (arith, form_length fs bs e))
    go false e = e

-- ---- a row of digits, one by one

digit_at : (n i : ℕ) → i < n → get_or (digits n) i 0 ≡ nought
digit_at zero i h = absurd (omega arith)
digit_at (suc n) zero h = refl
digit_at (suc n) (suc i) h = digit_at n i (omega arith)

pub digits_step : (bs : List ℕ) (n i : ℕ) → i < n → i < length bs
    → of_form (drop i (digits n)) (drop i bs) ≡ is_digit (get_or bs i 0) && of_form (drop (i + 1) (digits n))
    (drop (i + 1) bs)
unfolding alike is_digit
digits_step bs n i h k =
    form_step (digits n) bs i (omega (arith, length-replicate n nought)) k ∙ rw (digit_at n i h)

pub form_end : (fs bs : List ℕ) (i : ℕ) → length fs ≡ i → length bs ≡ i → of_form (drop i fs) (drop i bs) ≡ true
unfolding of_form
form_end [] [] zero h k = refl
form_end [] [] (suc i) h k = refl
form_end [] (b ∷ bs) i h k = absurd (omega arith)
form_end (f ∷ fs) [] i h k = absurd (omega arith)
form_end (f ∷ fs) (b ∷ bs) zero h k = absurd (omega arith)
form_end (f ∷ fs) (b ∷ bs) (suc i) h k = form_end fs bs i (omega arith) (omega arith)

-- ---- a number, one digit more

pub spelled_step : (bs : List ℕ) (i n : ℕ) → i < length bs
    → spelled n (drop i bs) ≡ spelled (10 * n + (get_or bs i 0 - nought)) (drop (i + 1) bs)
unfolding spelled
spelled_step bs i n h = rw (add-one i, drop-cons bs i 0 h)

pub spelled_end : (bs : List ℕ) (i n : ℕ) → length bs ≡ i → spelled n (drop i bs) ≡ n
unfolding spelled
spelled_end [] zero n h = refl
spelled_end [] (suc i) n h = refl
spelled_end (b ∷ bs) zero n h = absurd (omega arith)
spelled_end (b ∷ bs) (suc i) n h = spelled_end bs i n (omega arith)

-- the most that a number of bytes can spell
unfoldable pub most : ℕ → ℕ
most zero = 0
most (suc k) = 10 * most k + 255

pub most_suc : (k : ℕ) → most (k + 1) ≡ 10 * most k + 255
unfolding most
most_suc k = rw (add-one k)

-- of 4 bytes and of 12
pub most_le : (k : ℕ) → k ≤ 4 → most k ≤ 300000
unfolding most
most_le k h = leb→le (most k) 300000 (every_at (λ k. leb (most k) 300000) 5 k tt (omega arith))

pub most_le_12 : (k : ℕ) → k ≤ 12 → most k ≤ 2 ^ 45
unfolding most
most_le_12 k h = leb→le (most k) (2 ^ 45) (every_at (λ k. leb (most k) (2 ^ 45)) 13 k tt (omega arith))

-- ---- the minus

pub negative_at : (bs : List ℕ) → 0 < length bs → negative bs ≡ eqb (get_or bs 0 0) hyphen
unfolding negative
negative_at [] h = absurd (omega arith)
negative_at (b ∷ bs) h = refl

pub negative_none : (bs : List ℕ) → length bs ≡ 0 → negative bs ≡ false
unfolding negative
negative_none [] h = refl
negative_none (b ∷ bs) h = absurd (omega arith)

pub of_digits_le : (most : ℕ) (bs : List ℕ) → of_digits most bs ≡ true → (1 ≤ length bs) × (length bs ≤ most)
unfolding of_digits
of_digits_le most bs e =
    let u = (both_true (leb 1 (length bs) && leb (length bs) most) (of_form (digits (length bs)) bs) e).0 in
    let v = both_true (leb 1 (length bs)) (leb (length bs) most) u in
    (leb-true 1 (length bs) v.0, leb-true (length bs) most v.1)

pub negative_length : (bs : List ℕ) → negative bs ≡ true → 1 ≤ length bs
unfolding negative
negative_length [] e = true_not_false (sym e)
negative_length (b ∷ bs) e = omega arith

-- from a place to the end
pub to_end : (bs : List ℕ) (k : ℕ) → take (length bs - k) (drop k bs) ≡ drop k bs
to_end bs k = take_all (length bs - k) (drop k bs) (omega (arith, length-drop k bs))

pub unsigned_is : (bs : List ℕ) (b : Bool) → negative bs ≡ b → unsigned bs ≡ cond b (drop 1 bs) bs
unfolding unsigned
unsigned_is bs b e = rw e

-- ---- a long line is of another form

digits_long : (most : ℕ) (bs : List ℕ) → most < length bs → of_digits most bs ≡ false
unfolding of_digits
digits_long most bs h = rw (le-leb 1 (length bs) (omega arith), lt-leb (length bs) most h)

pub number_long : (most : ℕ) (bs : List ℕ) → most + 1 < length bs → of_number most bs ≡ false
unfolding of_number unsigned
number_long most bs h = go (negative bs)
  where
    go : (b : Bool) → of_digits most (cond b (drop 1 bs) bs) ≡ false
    go true = digits_long most (drop 1 bs) (omega (arith, length-drop 1 bs))
    go false = digits_long most bs (omega arith)

both_false : (a b : Bool) → b ≡ false → a && b ≡ false
both_false true b e = e
both_false false b e = refl

pub long_other : (line : List ℕ) → 30 ≤ length line → line_of line ≡ None
unfolding line_of
long_other line h =
    rw (both_false (of_form form (take 24 line)) (of_number 4 (drop 24 line))
    (number_long 4 (drop 24 line) (omega (arith, length-drop 24 line))))

-- so a line is told by its first 30 bytes, or more
pub line_cut : (line : List ℕ) (k : ℕ) → 30 ≤ k → line_of (take k line) ≡ line_of line
line_cut line k h = go (ltb k (length line)) refl
  where
    go : (b : Bool) → ltb k (length line) ≡ b → line_of (take k line) ≡ line_of line
    go true e =
        let l = ltb-true k (length line) e in
        long_other (take k line) (omega (arith, length-take k line)) ∙ sym (long_other line (omega arith))
    go false e = ap line_of (take_all k line (ltb-false k (length line) e))
