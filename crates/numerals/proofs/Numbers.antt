-- A number of at most 18 digits fits 64 bits, and how large it is.
use Rattle.std.specs.Prelude.{◌≡◌, refl, Bool, true, false, cond, ◌&&◌, List, ℕ, ◌^◌, ◌≤◌, ◌<◌, leb, length, ℤ, pos, neg_ℤ, nat_abs}
use Rattle.std.proofs.Common.{arith, le-leb}
use Rattle.integers.specs.Size.{abs_neg}
use Rattle.rules.specs.Numerals.{digits, of_form, negative, unsigned, of_digits, of_number, spelled, signed}
use Rattle.laws.specs.Ranges.{both_true}
use Rattle.laws.specs.Lines.{of_digits_le}
use Rattle.numerals.specs.Digits.{Spellable, digits_lt}

pub number_spellable : (most : ℕ) (bs : List ℕ) → most ≤ 18 → of_number most bs ≡ true → Spellable (unsigned bs)
unfolding of_number of_digits
number_spellable most bs h e k =
    let row = unsigned bs in
    let l = of_digits_le most row e in
    let u = both_true (leb 1 (length row) && leb (length row) most) (of_form (digits (length row)) row) e in
    rw (le-leb 1 (length row) l.0, le-leb (length row) 18 (omega (arith, l.1)), u.1) refl

pub signed_size : (bs : List ℕ) → nat_abs (signed bs) ≡ spelled 0 (unsigned bs)
unfolding signed
signed_size bs = go (negative bs)
  where
    size : ℤ
    size = pos (spelled 0 (unsigned bs))

    go : (b : Bool) → nat_abs (cond b (neg_ℤ size) size) ≡ spelled 0 (unsigned bs)
    go true = abs_neg size
    go false = refl

pub number_lt : (most : ℕ) (bs : List ℕ) → of_number most bs ≡ true → nat_abs (signed bs) < 10 ^ most
unfolding of_number
number_lt most bs e = omega (arith, signed_size bs, digits_lt most (unsigned bs) e)
