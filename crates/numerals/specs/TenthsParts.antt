-- The parts of a number in tenths, with a point and without.
use Rattle.std.specs.Prelude.{◌≡◌, refl, Bool, true, false, cond, ◌&&◌, List, ℕ, ◌+◌, ◌-◌, ◌*◌, ◌≤◌, ◌<◌, eqb, leb, length, take, get_or, ℤ, Some, None}
use Rattle.std.proofs.Common.{sym, ap, ◌∙◌, arith, leb-true, le-leb}
use Rattle.std.proofs.lemmas.Bool.{lt-leb}
use Rattle.rules.specs.Numerals.{point, nought, is_digit, of_digits, spelled}
use Rattle.laws.specs.Ranges.{both_true}
use Rattle.laws.specs.Lines.{of_digits_le}
use Rattle.numerals.specs.Digits.{digit_le, digits_lt}
use Rattle.numerals.specs.Tenths.{has_point, before_point, after_point, of_size, size_of, of_tenths, tenths_of, tenths_in}

-- ---- the point

pub point_none : (bs : List ℕ) → length bs < 2 → false ≡ has_point bs
unfolding has_point
point_none bs h = rw (lt-leb 2 (length bs) h)

pub point_at : (bs : List ℕ) → 2 ≤ length bs → eqb (get_or bs (length bs - 2) 0) point ≡ has_point bs
unfolding has_point
point_at bs h = rw (le-leb 2 (length bs) h)

pub point_long : (bs : List ℕ) → has_point bs ≡ true → 2 ≤ length bs
unfolding has_point
point_long bs e = leb-true 2 (length bs) (both_true (leb 2 (length bs)) _ e).0

-- ---- the digits before it, and the digit after it

pub before_is : (bs : List ℕ) (b : Bool) → has_point bs ≡ b → before_point bs ≡ cond b (take (length bs - 2) bs) bs
unfolding before_point
before_is bs b e = rw e

pub after_is : (bs : List ℕ) (b : Bool) → has_point bs ≡ b → after_point bs ≡ cond b (get_or bs (length bs - 1) 0) nought
unfolding after_point
after_is bs b e = rw e

-- the byte after the point, by its place from the point
pub after_at : (bs : List ℕ) → has_point bs ≡ true → get_or bs (length bs - 2 + 1) 0 ≡ after_point bs
after_at bs e =
    let h = point_long bs e in
    let q : length bs - 2 + 1 ≡ length bs - 1 = omega arith in
    ap (λ k. get_or bs k 0) q ∙ sym (after_is bs true e)

and_true : (a : Bool) → a ≡ a && true
and_true true = refl
and_true false = refl

pub of_size_whole : (bs : List ℕ) → has_point bs ≡ false → of_digits 4 bs ≡ of_size bs
unfolding of_size is_digit
of_size_whole bs e = rw (before_is bs false e, after_is bs false e) (and_true (of_digits 4 bs))

pub size_of_whole : (bs : List ℕ) → has_point bs ≡ false → 10 * spelled 0 bs ≡ size_of bs
unfolding size_of
size_of_whole bs e = rw (before_is bs false e, after_is bs false e) (omega arith)

pub of_size_other : (bs : List ℕ) → of_digits 4 (before_point bs) ≡ false → false ≡ of_size bs
unfolding of_size
of_size_other bs e = rw e

pub of_size_pointed : (bs : List ℕ) → of_digits 4 (before_point bs) ≡ true → is_digit (after_point bs) ≡ of_size bs
unfolding of_size
of_size_pointed bs e = rw e

pub of_size_le : (bs : List ℕ) → of_size bs ≡ true → length (before_point bs) ≤ 4
unfolding of_size
of_size_le bs e = (of_digits_le 4 (before_point bs) (both_true (of_digits 4 (before_point bs)) _ e).0).1

-- ---- how large it is

pub size_le : (bs : List ℕ) → of_size bs ≡ true → size_of bs ≤ 99999
unfolding of_size size_of
size_le bs e =
    let u = both_true (of_digits 4 (before_point bs)) (is_digit (after_point bs)) e in
    omega (arith, digits_lt 4 (before_point bs) u.0, digit_le (after_point bs) u.1)

-- ---- a word that is a number, and one that is none

pub tenths_some : (bs : List ℕ) (z : ℤ) → tenths_in bs ≡ Some z → (of_tenths bs ≡ true) × (tenths_of bs ≡ z)
unfolding tenths_in
tenths_some bs z e = go (of_tenths bs) refl e
  where
    go : (b : Bool) → of_tenths bs ≡ b → cond b (Some (tenths_of bs)) None ≡ Some z
        → (of_tenths bs ≡ true) × (tenths_of bs ≡ z)
    go true f e = (f, cc)
    go false f e = absurd cc

pub tenths_none : (bs : List ℕ) → tenths_in bs ≡ None → of_tenths bs ≡ false
unfolding tenths_in
tenths_none bs e = go (of_tenths bs) refl e
  where
    go : (b : Bool) → of_tenths bs ≡ b → cond b (Some (tenths_of bs)) None ≡ None → of_tenths bs ≡ false
    go true f e = absurd cc
    go false f e = f
