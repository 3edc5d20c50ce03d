-- docs/RULES.md, "Dates": bytes of a form, and the numbers that they spell. Definitions only.
use Rattle.std.specs.Prelude.{ℕ, ◌+◌, ◌-◌, ◌*◌, Bool, true, false, cond, ◌&&◌, List, [], ◌∷◌, length, take, drop, replicate, eqb, leb, ℤ, pos, neg_ℤ}

-- ---- bytes

abbrev pub space : ℕ
space = 32

abbrev pub hyphen : ℕ
hyphen = 45

abbrev pub point : ℕ
point = 46

abbrev pub nought : ℕ
nought = 48

abbrev pub colon : ℕ
colon = 58

unfoldable pub is_digit : ℕ → Bool
is_digit b = leb nought b && leb b (nought + 9)

-- ---- the form of a line

-- a row of digits, as the form has it
abbrev pub digits : ℕ → List ℕ
digits count = replicate count nought

-- a byte is as the form's: a digit for a digit, else the same
unfoldable pub alike : ℕ → ℕ → Bool
alike f b = cond (is_digit f) (is_digit b) (eqb f b)

-- bytes are of a form, from first to last
unfoldable pub of_form : List ℕ → List ℕ → Bool
of_form [] [] = true
of_form [] (b ∷ bs) = false
of_form (f ∷ fs) [] = false
of_form (f ∷ fs) (b ∷ bs) = alike f b && of_form fs bs

-- the bytes begin with a minus
unfoldable pub negative : List ℕ → Bool
negative [] = false
negative (b ∷ bs) = eqb b hyphen

-- what is left without the minus
unfoldable pub unsigned : List ℕ → List ℕ
unsigned bs = cond (negative bs) (drop 1 bs) bs

-- 1 to `most` digits
unfoldable pub of_digits : ℕ → List ℕ → Bool
of_digits most bs = let count = length bs in leb 1 count && leb count most && of_form (digits count) bs

-- "an optional minus, then 1 to 4 digits": of 1 to `most`
unfoldable pub of_number : ℕ → List ℕ → Bool
of_number most bs = of_digits most (unsigned bs)

-- the number that a row of digits spells
unfoldable pub spelled : ℕ → List ℕ → ℕ
spelled n [] = n
spelled n (b ∷ bs) = spelled (10 * n + (b - nought)) bs

-- the number in `count` bytes of a line, from `from` on
unfoldable pub field : ℕ → ℕ → List ℕ → ℤ
field from count line = pos (spelled 0 (take count (drop from line)))

-- the number that digits spell, with their sign
unfoldable pub signed : List ℕ → ℤ
signed bs = let size = pos (spelled 0 (unsigned bs)) in cond (negative bs) (neg_ℤ size) size
