-- Numbers in bytes, little-endian, by one law over the width: a number's bytes are read as that number, and what bytes
-- are read as is written as those bytes.
use Rattle.std.specs.Prelude.{◌≡◌, refl, Bool, true, false, List, [], ◌∷◌, ℕ, zero, suc, ◌+◌, ◌*◌, ◌-◌, ◌/◌, ◌%◌, ◌^◌, ◌<◌, ◌≤◌, length, get_or, ltb, ℤ, pos, negsuc}
use Rattle.std.proofs.Common.{◌∙◌, ap, arith, pow-suc, lt-ltb, le-ltb, ltb-true, ltb-false}
use Rattle.std.specs.Int.Signed.{mag}
use Rattle.integers.specs.Difference.{eq_of_parts, sub_is}
use Rattle.rules.specs.Bytes.{of_bytes, bytes_of, signed_of, unsigned_of, signed_bytes}

-- each of them is a byte
abbrev pub Bytes : List ℕ → Type 0
Bytes bs = (i : ℕ) → get_or bs i 0 < 256

-- ---- without a sign

pub bytes_length : (width n : ℕ) → length (bytes_of width n) ≡ width
unfolding bytes_of
bytes_length zero n = refl
bytes_length (suc width) n = ap suc (bytes_length width (n / 256))

pub of_bytes_lt : (bs : List ℕ) → Bytes bs → of_bytes bs < 256 ^ length bs
unfolding of_bytes
of_bytes_lt [] byte = omega arith
of_bytes_lt (b ∷ bs) byte = omega (arith, byte 0, of_bytes_lt bs (λ i. byte (suc i)), pow-suc 256 (length bs))

pub of_bytes_bytes_of : (width n : ℕ) → n < 256 ^ width → of_bytes (bytes_of width n) ≡ n
unfolding of_bytes bytes_of
of_bytes_bytes_of zero n l = omega (arith, l)
of_bytes_bytes_of (suc width) n l =
    let rest = of_bytes_bytes_of width (n / 256) (omega (arith, l, pow-suc 256 width)) in
    omega (arith, rest)

pub bytes_of_of_bytes : (bs : List ℕ) → Bytes bs → bytes_of (length bs) (of_bytes bs) ≡ bs
unfolding of_bytes bytes_of
bytes_of_of_bytes [] byte = refl
bytes_of_of_bytes (b ∷ bs) byte =
    let low : (b + 256 * of_bytes bs) % 256 ≡ b = omega (arith, byte 0) in
    let high : (b + 256 * of_bytes bs) / 256 ≡ of_bytes bs = omega (arith, byte 0) in
    (λ i. low i ∷ bytes_of (length bs) (high i)) ∙ ap (λ r. b ∷ r) (bytes_of_of_bytes bs (λ i. byte (suc i)))

-- ---- with a sign

-- the lower half stands for itself
pub signed_low : (width n : ℕ) → 2 * n < 256 ^ width → signed_of width n ≡ pos n
unfolding signed_of
signed_low width n l = rw (lt-ltb (2 * n) (256 ^ width) l)

-- the upper half counts down from −1
pub signed_high : (width n : ℕ) → 256 ^ width ≤ 2 * n → n < 256 ^ width
    → signed_of width n ≡ negsuc (256 ^ width - suc n)
unfolding signed_of
signed_high width n l k =
    let e = le-ltb (2 * n) (256 ^ width) l in
    rw e (eq_of_parts _ _ (omega (arith, sub_is (pos n) (pos (256 ^ width)))))

unsigned_signed : (width n : ℕ) → n < 256 ^ width → unsigned_of width (signed_of width n) ≡ n
unfolding unsigned_of
unsigned_signed width n l = by (ltb (2 * n) (256 ^ width)) refl
  where
    by : (t : Bool) → ltb (2 * n) (256 ^ width) ≡ t → unsigned_of width (signed_of width n) ≡ n
    by true e = rw (signed_low width n (ltb-true _ _ e))
    by false e = rw (signed_high width n (ltb-false _ _ e) l) (omega arith)

-- z is of the width k + 1: from minus half of 256 ^ (k + 1) to one less than that half
abbrev pub OfWidth : ℕ → ℤ → Type 0
OfWidth k z = mag z < 128 * 256 ^ k

unsigned_lt : (k : ℕ) (z : ℤ) → OfWidth k z → unsigned_of (suc k) z < 256 ^ suc k
unfolding unsigned_of
unsigned_lt k (pos n) l = omega (arith, l, pow-suc 256 k)
unsigned_lt k (negsuc n) l = omega (arith, l, pow-suc 256 k)

signed_unsigned : (k : ℕ) (z : ℤ) → OfWidth k z → signed_of (suc k) (unsigned_of (suc k) z) ≡ z
unfolding unsigned_of
signed_unsigned k (pos n) l = signed_low (suc k) n (omega (arith, l, pow-suc 256 k))
signed_unsigned k (negsuc n) l =
    let p = pow-suc 256 k in
    let back : 256 ^ suc k - suc (256 ^ suc k - suc n) ≡ n = omega (arith, l, p) in
    signed_high (suc k) (256 ^ suc k - suc n) (omega (arith, l, p)) (omega (arith, l, p)) ∙ ap negsuc back

pub signed_width : (k n : ℕ) → n < 256 ^ suc k → OfWidth k (signed_of (suc k) n)
signed_width k n l = by (ltb (2 * n) (256 ^ suc k)) refl
  where
    by : (t : Bool) → ltb (2 * n) (256 ^ suc k) ≡ t → OfWidth k (signed_of (suc k) n)
    by true e =
        let lower : 2 * n < 256 ^ suc k = ltb-true _ _ e in
        rw (signed_low (suc k) n lower) (omega (arith, pow-suc 256 k))
    by false e =
        let upper : 256 ^ suc k ≤ 2 * n = ltb-false _ _ e in
        rw (signed_high (suc k) n upper l) (omega (arith, l, pow-suc 256 k))

-- a number's bytes are read as that number
pub signed_again : (k : ℕ) (z : ℤ) → OfWidth k z → signed_of (suc k) (of_bytes (signed_bytes (suc k) z)) ≡ z
unfolding signed_bytes
signed_again k z l =
    ap (signed_of (suc k)) (of_bytes_bytes_of (suc k) (unsigned_of (suc k) z) (unsigned_lt k z l)) ∙ signed_unsigned k z l

-- what bytes are read as is written as those bytes
pub bytes_again : (bs : List ℕ) → Bytes bs → signed_bytes (length bs) (signed_of (length bs) (of_bytes bs)) ≡ bs
unfolding signed_bytes
bytes_again bs byte =
    ap (bytes_of (length bs)) (unsigned_signed (length bs) (of_bytes bs) (of_bytes_lt bs byte)) ∙ bytes_of_of_bytes bs byte

pub signed_length : (width : ℕ) (z : ℤ) → length (signed_bytes width z) ≡ width
unfolding signed_bytes
signed_length width z = bytes_length width (unsigned_of width z)
