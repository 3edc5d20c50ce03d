-- Our own program `places`, not document 01: angles for people, in bytes. Definitions only.
-- Each is rounded once, halves away from zero: right ascension to 0.01 s, the others to 0.1''.
use Rattle.std.specs.Prelude.{ℕ, ◌/◌, ◌%◌, cond, List, ◌∷◌, ◌++◌, ℤ, pos, nat_abs}
use Rattle.std.specs.Int.Signed.{lt_z}
use Rattle.rules.specs.Rounding.{rnd, modulo}
use Rattle.rules.specs.Numerals.{space, hyphen, point, colon}
use Rattle.laws.specs.Decimal.{last_digits}

-- a space, then bytes
abbrev pub spaced : List ℕ → List ℕ
spaced bytes = space ∷ bytes

abbrev pub plus : ℕ
plus = 43

-- a byte, then the last digits of n
unfoldable pub marked : ℕ → ℕ → ℕ → List ℕ
marked mark digits n = mark ∷ last_digits digits n

-- whole seconds: hours or degrees in `width` digits, minutes, seconds
unfoldable pub clock : ℕ → ℕ → List ℕ
clock width seconds =
    last_digits width (seconds / 3600) ++ marked colon 2 (seconds / 60 % 60) ++ marked colon 2 (seconds % 60)

-- n parts of a second, with `digits` of them after the point
unfoldable pub sexagesimal : ℕ → ℕ → ℕ → ℕ → List ℕ
sexagesimal width seconds digits n = clock width seconds ++ marked point digits n

-- an angle in parts of `part` µas, with a whole circle as nought
unfoldable pub round_in : ℕ → ℕ → ℤ → ℕ
round_in circle part angle = modulo (rnd angle part) circle

-- `hh:mm:ss.ss`: 0.01 s is 150,000 µas, and 24 h is 8,640,000 of them
unfoldable pub hours : ℤ → List ℕ
hours angle = let n = round_in 8640000 150000 angle in sexagesimal 2 (n / 100) 2 n

-- `ddd:mm:ss.s`: 0.1'' is 100,000 µas, and 360° is 12,960,000 of them
unfoldable pub bearing : ℤ → List ℕ
bearing angle = let n = round_in 12960000 100000 angle in sexagesimal 3 (n / 10) 1 n

-- the sign of what is printed; nought has a plus
unfoldable pub sign_of : ℤ → ℕ
sign_of n = cond (lt_z n (pos 0)) hyphen plus

-- `±dd:mm:ss.s`
unfoldable pub elevation : ℤ → List ℕ
elevation angle =
    let n = rnd angle 100000 in
    sign_of n ∷ sexagesimal 2 (nat_abs n / 10) 1 (nat_abs n)
