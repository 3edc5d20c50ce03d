-- Words of a line: found byte by byte; and a line with no site after its first words is of another form.
use Rattle.std.specs.Prelude.{◌≡◌, refl, Bool, true, false, cond, ◌&&◌, List, [], ◌∷◌, ℕ, zero, suc, ◌+◌, ◌-◌, ◌≤◌, ◌<◌, eqb, length, take, drop, get_or, Option, Some, None}
use Rattle.std.proofs.Common.{ap, ◌∙◌, add-one, arith, length-drop, drop-cons, eq-eqb, ne_eqb}
use Rattle.rules.specs.declared.Moment.{Moment}
use Rattle.rules.specs.Numerals.{space, negative, unsigned, of_digits, of_number}
use Rattle.rules.specs.Lines.{line_of}
use Rattle.laws.specs.Lines.{to_end}
use Rattle.line_asked.specs.Asking.{length_before, word_length, first_word, after_word, of_site, with_site, asked_in}
use Rattle.line_asked.specs.Asking.{moment_end, asked_of}

-- ---- bytes before one, byte by byte

pub before_step_lem : (byte : ℕ) (bs : List ℕ) (i : ℕ) → i < length bs
    → length_before byte (drop i bs) ≡ cond (eqb (get_or bs i 0) byte) 0 (suc (length_before byte (drop (i + 1) bs)))
unfolding length_before
before_step_lem byte bs i h = rw (add-one i, drop-cons bs i 0 h)

-- the byte is found, or it is another
pub before_found : (byte : ℕ) (bs : List ℕ) (i m : ℕ) → i < length bs → get_or bs i 0 ≡ byte
    → i + length_before byte (drop i bs) ≡ m
    → i ≡ m
before_found byte bs i m h e w =
    let q : length_before byte (drop i bs) ≡ 0 = before_step_lem byte bs i h ∙ rw (eq-eqb (get_or bs i 0) byte e) in
    omega arith

pub before_on : (byte : ℕ) (bs : List ℕ) (i m : ℕ) → i < length bs → (get_or bs i 0 ≡ byte → ⊥)
    → i + length_before byte (drop i bs) ≡ m
    → (i + 1) + length_before byte (drop (i + 1) bs) ≡ m
before_on byte bs i m h e w =
    let q : length_before byte (drop i bs) ≡ suc (length_before byte (drop (i + 1) bs)) =
    before_step_lem byte bs i h ∙ rw (ne_eqb (get_or bs i 0) byte e) in
    omega arith

pub before_end : (byte : ℕ) (bs : List ℕ) (i : ℕ) → length bs ≡ i → length_before byte (drop i bs) ≡ 0
unfolding length_before
before_end byte [] zero h = refl
before_end byte [] (suc i) h = refl
before_end byte (b ∷ bs) zero h = absurd (omega arith)
before_end byte (b ∷ bs) (suc i) h = before_end byte bs i (omega arith)

pub before_le : (byte : ℕ) (bs : List ℕ) → length_before byte bs ≤ length bs
unfolding length_before
before_le byte [] = omega arith
before_le byte (b ∷ bs) = go (eqb b byte) (before_le byte bs)
  where
    go : (t : Bool) → length_before byte bs ≤ length bs → cond t 0 (suc (length_before byte bs)) ≤ suc (length bs)
    go true h = omega arith
    go false h = omega arith

pub word_le : (bs : List ℕ) → word_length bs ≤ length bs
word_le bs = before_le space bs

-- ---- nothing where a number should be

pub nothing_left : (bs : List ℕ) → length bs ≡ 0 → bs ≡ []
nothing_left [] h = refl
nothing_left (b ∷ bs) h = absurd (omega arith)

pub none_is_no_number : (most : ℕ) → of_number most [] ≡ false
unfolding of_number unsigned negative of_digits
none_is_no_number most = refl

pub both_false : (a b : Bool) → b ≡ false → a && b ≡ false
both_false true b e = e
both_false false b e = refl

-- no longitude
pub site_short : (bs : List ℕ) → length bs ≤ word_length bs → of_site bs ≡ false
unfolding of_site after_word
site_short bs h =
    let w = word_length bs in
    both_false (of_number 12 (first_word bs)) (of_number 12 (drop (w + 1) bs))
    (ap (of_number 12) (nothing_left (drop (w + 1) bs) (omega (arith, length-drop (w + 1) bs))) ∙ none_is_no_number 12)

pub with_none : (m : Moment) → with_site m [] ≡ None
unfolding with_site length_before
with_none m = rw (site_short [] (omega arith))

-- no site
pub asked_none : (l : Option Moment) (bs : List ℕ) → length bs ≡ 0 → asked_in l bs ≡ None
unfolding asked_in
asked_none (Some m) bs h = ap (with_site m) (nothing_left bs h) ∙ with_none m
asked_none None bs h = refl

-- ---- the parts of a line, as a slice has them

pub first_word_is : (bs : List ℕ) (n : ℕ) → n ≡ word_length bs → take n bs ≡ first_word bs
unfolding first_word
first_word_is bs n e = ap (λ k. take k bs) e

pub after_word_is : (bs : List ℕ) (n : ℕ) → n ≡ word_length bs
    → take (length bs - (n + 1)) (drop (n + 1) bs) ≡ after_word bs
unfolding after_word
after_word_is bs n e = to_end bs (n + 1) ∙ ap (λ k. drop (k + 1) bs) e

pub end_ge : (line : List ℕ) → 24 ≤ moment_end line
unfolding moment_end
end_ge line = omega arith

pub end_le : (line : List ℕ) → 24 ≤ length line → moment_end line ≤ length line
unfolding moment_end
end_le line h = omega (arith, word_le (drop 24 line), length-drop 24 line)

pub end_is : (line : List ℕ) (n : ℕ) → n ≡ word_length (take (length line - 24) (drop 24 line)) → 24 + n ≡ moment_end line
unfolding moment_end
end_is line n e = ap (λ k. 24 + k) (e ∙ ap word_length (to_end line 24))

-- ---- a line that ends before its site is of another form

pub asked_short : (line : List ℕ) → length line ≤ moment_end line → asked_of line ≡ None
unfolding asked_of
asked_short line h =
    asked_none (line_of (take (moment_end line) line)) (drop (moment_end line + 1) line)
    (omega (arith, length-drop (moment_end line + 1) line))
