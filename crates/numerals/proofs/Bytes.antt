-- A row of bytes: whether it begins with a minus, and whether it is all digits.
use Rattle.std.specs.Prelude.{◌≡◌, refl, Bool, true, false, ◌&&◌, List, [], ◌∷◌, ℕ, ◌≤◌, ◌<◌, eqb, length, take, drop, ◌+◌, Option, Some, None, MatchOption}
use Rattle.std.specs.Borrow.{Bor}
use lib.Pointwise.{pointwise}
use Rattle.std.proofs.Common.{sym, ap, ◌∙◌, arith, le-leb, eq-eqb, ne_eqb, eqb-true}
use Rattle.laws.specs.Ranges.{true_not_false}
use Rattle.std.proofs.lemmas.Bool.{lt-leb}
use Rattle.std.specs.List.{list_all, starts_with, zip}
use Rattle.std.specs.Char.{is_ascii_digit}
use Rattle.std.specs.Option.{unwrap_or}
use Rattle.std.proofs.Math.Bool.{and-true}
use Rattle.laws.specs.Lines.{unsigned_is}
use Rattle.rules.specs.Numerals.{hyphen, is_digit, digits, alike, of_form, negative, unsigned, of_digits}

pub digit_is : (b : ℕ) → is_ascii_digit b ≡ is_digit b
unfolding is_digit
digit_is b = refl

all_is : (bs : List ℕ) → of_form (digits (length bs)) bs ≡ list_all is_digit bs
unfolding of_form alike is_digit
all_is [] = refl
all_is (b ∷ bs) = ap (λ r. is_digit b && r) (all_is bs)

pub digits_all : (most : ℕ) (bs : List ℕ) → 1 ≤ length bs → length bs ≤ most → of_digits most bs ≡ list_all is_digit bs
unfolding of_digits
digits_all most bs h k = rw (le-leb 1 (length bs) h, le-leb (length bs) most k) (all_is bs)

pub no_digits : (most : ℕ) (bs : List ℕ) → length bs ≡ 0 → of_digits most bs ≡ false
unfolding of_digits
no_digits most [] h = refl
no_digits most (b ∷ bs) h = absurd (omega arith)

pub many_digits : (most : ℕ) (bs : List ℕ) → 1 ≤ length bs → most < length bs → of_digits most bs ≡ false
unfolding of_digits
many_digits most bs h k = rw (le-leb 1 (length bs) h, lt-leb (length bs) most k) refl

-- ---- a form

pub form_all : (fs bs : List ℕ) → length fs ≡ length bs → of_form fs bs ≡ list_all (λ p. alike p.0 p.1) (zip fs bs)
unfolding of_form
form_all [] [] h = refl
form_all [] (b ∷ bs) h = absurd (omega arith)
form_all (f ∷ fs) [] h = absurd (omega arith)
form_all (f ∷ fs) (b ∷ bs) h = ap (λ r. alike f b && r) (form_all fs bs (omega arith))

-- ---- the minus

minus_first : (b : ℕ) → eqb hyphen b && true ≡ eqb b hyphen
minus_first b = and-true (eqb hyphen b) ∙ go (eqb b hyphen) refl
  where
    go : (t : Bool) → eqb b hyphen ≡ t → eqb hyphen b ≡ eqb b hyphen
    go true e = let q : b ≡ hyphen = eqb-true b hyphen e in rw q
    go false e = ne_eqb hyphen b (λ q. true_not_false (sym (eq-eqb b hyphen (sym q)) ∙ e)) ∙ sym e

pub minus_is : (bs : List ℕ) → starts_with eqb bs (hyphen ∷ []) ≡ negative bs
unfolding negative
minus_is [] = refl
minus_is (b ∷ bs) = minus_first b

same_minus : (bs : List ℕ) → pointwise eqb (take 1 bs) (hyphen ∷ []) ≡ negative bs
unfolding negative
same_minus [] = refl
same_minus (b ∷ bs) = and-true (eqb b hyphen)

pub stripped : (s : Bor (List ℕ)) (r : Option (Bor (List ℕ)))
    → MatchOption r (pointwise eqb (take 1 s.now) (hyphen ∷ []) ≡ false)
    (λ x. (pointwise eqb (take 1 s.now) (hyphen ∷ []) ≡ true) × (x.now ≡ drop 1 s.now) × (length x.now + 1 ≡ length s.now))
    → (unwrap_or r s).now ≡ unsigned s.now
stripped s None h = sym (unsigned_is s.now false (sym (same_minus s.now) ∙ h))
stripped s (Some x) h = h.1 ∙ sym (unsigned_is s.now true (sym (same_minus s.now) ∙ h.0))
