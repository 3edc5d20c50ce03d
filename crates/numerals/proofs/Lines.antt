-- A line of `times`, by whether it is long enough, of its form, and ends with a number.
use Rattle.std.specs.Prelude.{◌≡◌, refl, Bool, true, false, ◌&&◌, List, ℕ, ◌<◌, length, take, drop, Some, None}
use Rattle.std.proofs.Common.{arith, length-take}
use Rattle.rules.specs.Numerals.{of_form, of_number}
use Rattle.rules.specs.Lines.{form, moment, line_of}
use Rattle.laws.specs.Lines.{form_short}

pub line_other_form : (line : List ℕ) → of_form form (take 24 line) ≡ false → line_of line ≡ None
unfolding line_of
line_other_form line e = rw e

pub line_short : (line : List ℕ) → length line < 24 → line_of line ≡ None
line_short line h = line_other_form line (form_short form (take 24 line) (omega (arith, length-take 24 line)))

both_false : (a b : Bool) → b ≡ false → a && b ≡ false
both_false true b e = e
both_false false b e = refl

pub line_other_number : (line : List ℕ) → of_number 4 (drop 24 line) ≡ false → line_of line ≡ None
unfolding line_of
line_other_number line e = rw (both_false (of_form form (take 24 line)) (of_number 4 (drop 24 line)) e)

pub line_told : (line : List ℕ) → of_form form (take 24 line) ≡ true → of_number 4 (drop 24 line) ≡ true
    → line_of line ≡ Some (moment line)
unfolding line_of
line_told line e f = rw (e, f)
