-- Our own program `places`, not document 01: a pressure or a temperature in a word, in tenths. Definitions only.
-- An optional minus, 1 to 4 digits, and then nothing or a point and one digit: `1013`, `1013.2`, `-10.5`, `-0.5`.
use Rattle.std.specs.Prelude.{ℕ, ◌+◌, ◌-◌, ◌*◌, Bool, cond, ◌&&◌, List, eqb, leb, ℤ, pos, neg_ℤ, length, take, get_or, Option, Some, None}
use Rattle.rules.specs.Numerals.{point, nought, is_digit, negative, unsigned, of_digits, spelled}

-- ---- without the minus

-- the last byte but one is a point
unfoldable pub has_point : List ℕ → Bool
has_point bs = leb 2 (length bs) && eqb (get_or bs (length bs - 2) 0) point

-- the bytes before the point; all where there is none
unfoldable pub before_point : List ℕ → List ℕ
before_point bs = cond (has_point bs) (take (length bs - 2) bs) bs

-- the byte after the point; the digit 0 where there is none
unfoldable pub after_point : List ℕ → ℕ
after_point bs = cond (has_point bs) (get_or bs (length bs - 1) 0) nought

-- 1 to 4 digits, and then nothing or a point and one digit
unfoldable pub of_size : List ℕ → Bool
of_size bs = of_digits 4 (before_point bs) && is_digit (after_point bs)

-- 10 × whole + digit
unfoldable pub size_of : List ℕ → ℕ
size_of bs = 10 * spelled 0 (before_point bs) + (after_point bs - nought)

-- ---- a word

unfoldable pub of_tenths : List ℕ → Bool
of_tenths bs = of_size (unsigned bs)

-- whole tenths, with the sign of the word: `-0.5` is −5
unfoldable pub tenths_of : List ℕ → ℤ
tenths_of bs = let size = pos (size_of (unsigned bs)) in cond (negative bs) (neg_ℤ size) size

-- the number in a word; none where it is of another form
unfoldable pub tenths_in : List ℕ → Option ℤ
tenths_in bs = cond (of_tenths bs) (Some (tenths_of bs)) None
