-- A long line of `places` is of another form, so a line is told by its first 58 bytes.
use Rattle.std.specs.Prelude.{◌≡◌, refl, Bool, true, false, ◌&&◌, List, ℕ, ◌+◌, ◌≤◌, ltb, length, take, drop, Option, Some, None}
use Rattle.std.proofs.Common.{sym, ap, ◌∙◌, arith, length-take, length-drop, take_all, length-take-le, ltb-true, ltb-false}
use Rattle.rules.specs.Numerals.{of_number}
use Rattle.rules.specs.Lines.{line_of}
use Rattle.laws.specs.Lines.{number_long, long_other}
use Rattle.line_asked.specs.Asking.{word_length, first_word, after_word, of_site, with_site, asked_in}
use Rattle.line_asked.specs.Asking.{moment_end, asked_of}
use Rattle.line_asked.specs.Words.{word_le, both_false, asked_short}
use Rattle.rules.specs.declared.Moment.{Moment}

first_length : (bs : List ℕ) → length (first_word bs) ≡ word_length bs
unfolding first_word
first_length bs = length-take-le (word_length bs) bs (word_le bs)

-- two numbers of 13 bytes and a space are 27 bytes
site_long : (bs : List ℕ) → 28 ≤ length bs → of_site bs ≡ false
unfolding of_site after_word
site_long bs h = go (ltb 13 (word_length bs)) refl
  where
    go : (b : Bool) → ltb 13 (word_length bs) ≡ b → of_number 12 (first_word bs) && of_number 12 (after_word bs) ≡ false
    go true e = rw (number_long 12 (first_word bs) (omega (arith, first_length bs, ltb-true 13 (word_length bs) e)))
    go false e =
        both_false (of_number 12 (first_word bs)) (of_number 12 (after_word bs))
        (number_long 12 (after_word bs)
        (omega (arith, length-drop (word_length bs + 1) bs, ltb-false 13 (word_length bs) e)))

asked_in_long : (l : Option Moment) (bs : List ℕ) → 28 ≤ length bs → asked_in l bs ≡ None
unfolding asked_in with_site
asked_in_long (Some m) bs h = rw (site_long bs h)
asked_in_long None bs h = refl

asked_other : (l : Option Moment) (bs : List ℕ) → l ≡ None → asked_in l bs ≡ None
unfolding asked_in
asked_other l bs e = rw e

pub asked_long : (line : List ℕ) → 58 ≤ length line → asked_of line ≡ None
unfolding asked_of
asked_long line h = go (ltb 29 (moment_end line)) (ltb (moment_end line) (length line)) refl refl
  where
    go : (b d : Bool) → ltb 29 (moment_end line) ≡ b → ltb (moment_end line) (length line) ≡ d
        → asked_in (line_of (take (moment_end line) line)) (drop (moment_end line + 1) line) ≡ None
    go false d e f =
        asked_in_long (line_of (take (moment_end line) line)) (drop (moment_end line + 1) line)
        (omega (arith, length-drop (moment_end line + 1) line, ltb-false 29 (moment_end line) e))
    go true true e f =
        let inside = ltb-true (moment_end line) (length line) f in
        asked_other (line_of (take (moment_end line) line)) (drop (moment_end line + 1) line)
        (long_other (take (moment_end line) line)
        (omega (arith, length-take-le (moment_end line) line (omega arith), ltb-true 29 (moment_end line) e)))
    go true false e f = asked_short line (ltb-false (moment_end line) (length line) f)

pub asked_cut : (line : List ℕ) (k : ℕ) → 58 ≤ k → asked_of (take k line) ≡ asked_of line
asked_cut line k h = go (ltb k (length line)) refl
  where
    go : (b : Bool) → ltb k (length line) ≡ b → asked_of (take k line) ≡ asked_of line
    go true e =
        let l = ltb-true k (length line) e in
        asked_long (take k line) (omega (arith, length-take k line)) ∙ sym (asked_long line (omega arith))
    go false e = ap asked_of (take_all k line (ltb-false k (length line) e))
