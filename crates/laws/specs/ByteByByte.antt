-- Numbers in bytes, a byte at a time, as the code reads and writes them: from the last byte down, and from the lowest
-- up.
use Rattle.std.specs.Prelude.{◌≡◌, refl, Bool, true, false, cond, List, [], ◌∷◌, ℕ, zero, suc, ◌+◌, ◌*◌, ◌-◌, ◌/◌, ◌%◌, ◌^◌, ◌<◌, ◌≤◌, length, get_or, ltb, ℤ, pos, negsuc, ◌+ℤ◌, ◌*ℤ◌}
use Rattle.std.proofs.Common.{sym, ◌∙◌, ap, subst, arith, lt_irrefl, pow-suc, ltb-true, ltb-false}
use Rattle.std.specs.Int.Signed.{mag, shr_z, mag_shr}
use Rattle.integers.specs.Difference.{pos_part, neg_part, eq_of_parts, add_is, mul_is}
use Rattle.rules.specs.Rounding.{modulo}
use Rattle.rules.specs.Bytes.{bytes_of, signed_of, unsigned_of, unsigned_at, signed_at, signed_bytes}
use Rattle.laws.specs.Bytes.{Bytes, OfWidth, signed_low, signed_high}
use Rattle.laws.specs.FileParts.{part_lt, unsigned_cons, unsigned_none, signed_at_width}

-- ---- a byte at a time

-- the sign that a last byte carries
abbrev pub sign_of : ℕ → ℤ
sign_of b = cond (ltb b 128) (pos 0) (negsuc 0)

pub sign_le : (b : ℕ) → mag (sign_of b) ≤ 1
sign_le b = by (ltb b 128)
  where
    by : (t : Bool) → mag (cond t (pos 0) (negsuc 0)) ≤ 1
    by true = omega arith
    by false = omega arith

-- a byte below a number
abbrev pub below : ℕ → ℤ → ℤ
below b z = z *ℤ pos 256 +ℤ pos b

-- a number by its parts
below_is : (b : ℕ) (z : ℤ) → pos_part (below b z) + 256 * neg_part z ≡ 256 * pos_part z + b + neg_part (below b z)
below_is b z = omega (arith, mul_is z (pos 256), add_is (z *ℤ pos 256) (pos b))

parts_lt : (z : ℤ) (n : ℕ) → mag z < n → (pos_part z < n) × (neg_part z ≤ n)
parts_lt (pos m) n l = (l, omega arith)
parts_lt (negsuc m) n l = (omega arith, l)

lt_parts : (z : ℤ) (n : ℕ) → pos_part z < n + neg_part z → neg_part z ≤ n + pos_part z → mag z < n
lt_parts (pos m) n h k = omega arith
lt_parts (negsuc m) n h k = omega arith

-- eight bits more fit the word
pub times_fits : (z : ℤ) → mag z < 2 ^ 55 → mag (z *ℤ pos 256) < 2 ^ 63
times_fits z l =
    let k = parts_lt z (2 ^ 55) l in
    lt_parts (z *ℤ pos 256) (2 ^ 63) (omega (arith, mul_is z (pos 256))) (omega (arith, mul_is z (pos 256)))

pub below_fits : (b : ℕ) (z : ℤ) → b < 256 → mag z < 2 ^ 55 → mag (below b z) < 2 ^ 63
below_fits b z h l =
    let k = parts_lt z (2 ^ 55) l in
    lt_parts (below b z) (2 ^ 63) (omega (arith, below_is b z)) (omega (arith, below_is b z))

-- one byte: the number and its sign are in it
pub signed_one : (at : ℕ) (file : List ℕ) → Bytes file → at < length file
    → signed_at at 1 file ≡ below (get_or file at 0) (sign_of (get_or file at 0))
unfolding signed_at
signed_one at file byte l =
    ap (signed_of 1) (unsigned_cons at 0 file l ∙ ap (λ (n : ℕ). get_or file at 0 + 256 * n) (unsigned_none (at + 1) file))
    ∙ by (get_or file at 0) (byte at) (ltb (get_or file at 0) 128) refl
  where
    by : (b : ℕ) → b < 256 → (t : Bool) → ltb b 128 ≡ t → signed_of 1 (b + 256 * 0) ≡ below b (cond t (pos 0) (negsuc 0))
    by b k true e =
        signed_low 1 (b + 256 * 0) (omega (arith, ltb-true b 128 e))
        ∙ eq_of_parts (pos (b + 256 * 0)) (below b (pos 0)) (omega (arith, below_is b (pos 0)))
    by b k false e =
        signed_high 1 (b + 256 * 0) (omega (arith, ltb-false b 128 e)) (omega (arith, k))
        ∙ eq_of_parts (negsuc (256 - suc (b + 256 * 0))) (below b (negsuc 0)) (omega (arith, k, below_is b (negsuc 0)))

-- and each byte more, below what the bytes above it hold
signed_below : (k b n : ℕ) → b < 256 → n < 256 ^ suc k
    → signed_of (suc (suc k)) (b + 256 * n) ≡ below b (signed_of (suc k) n)
signed_below k b n l h = by (ltb (2 * n) (256 ^ suc k)) refl
  where
    by : (t : Bool) → ltb (2 * n) (256 ^ suc k) ≡ t
        → signed_of (suc (suc k)) (b + 256 * n) ≡ below b (signed_of (suc k) n)
    by true e =
        let lower : 2 * n < 256 ^ suc k = ltb-true _ _ e in
        let p = pow-suc 256 k in
        let p' = pow-suc 256 (suc k) in
        signed_low (suc (suc k)) (b + 256 * n) (omega arith)
        ∙ eq_of_parts (pos (b + 256 * n)) (below b (pos n)) (omega (arith, below_is b (pos n)))
        ∙ ap (below b) (sym (signed_low (suc k) n lower))
    by false e =
        let upper : 256 ^ suc k ≤ 2 * n = ltb-false _ _ e in
        let p = pow-suc 256 k in
        let p' = pow-suc 256 (suc k) in
        signed_high (suc (suc k)) (b + 256 * n) (omega arith) (omega arith)
        ∙ eq_of_parts (negsuc (256 ^ suc (suc k) - suc (b + 256 * n))) (below b (negsuc (256 ^ suc k - suc n)))
        (omega (arith, below_is b (negsuc (256 ^ suc k - suc n))))
        ∙ ap (below b) (sym (signed_high (suc k) n upper h))

pub signed_step : (at k : ℕ) (file : List ℕ) → Bytes file → 0 < k → at + suc k ≤ length file
    → signed_at at (suc k) file ≡ below (get_or file at 0) (signed_at (at + 1) k file)
unfolding signed_at
signed_step at zero file byte l h = absurd (lt_irrefl 0 l)
signed_step at (suc k) file byte l h =
    ap (signed_of (suc (suc k))) (unsigned_cons at (suc k) file (omega (arith, h)))
    ∙ signed_below k (get_or file at 0) (unsigned_at (at + 1) (suc k) file) (byte at)
    (part_lt (at + 1) (suc k) file byte (omega (arith, h)))

-- the same from the last byte down
pub signed_down : (at k width : ℕ) (file : List ℕ) → Bytes file → 0 < k → k < width → at + width ≤ length file
    → signed_at (at + (k - 1)) (width - (k - 1)) file
    ≡ below (get_or file (at + (k - 1)) 0) (signed_at (at + k) (width - k) file)
signed_down at k width file byte l h m =
    let e : width - (k - 1) ≡ suc (width - k) = omega (arith, l, h) in
    let f : at + (k - 1) + 1 ≡ at + k = omega (arith, l) in
    ap (λ n. signed_at (at + (k - 1)) n file) e
    ∙ signed_step (at + (k - 1)) (width - k) file byte (omega (arith, h)) (omega (arith, l, h, m))
    ∙ ap (λ n. below (get_or file (at + (k - 1)) 0) (signed_at n (width - k) file)) f

power_le : (k d : ℕ) → 256 ^ k ≤ 256 ^ (k + d)
power_le k zero =
    let e : k ≡ k + 0 = omega arith in
    subst (λ j. 256 ^ k ≤ 256 ^ j) e (omega arith)
power_le k (suc d) =
    let e : suc (k + d) ≡ k + suc d = omega arith in
    subst (λ j. 256 ^ k ≤ 256 ^ j) e (omega (arith, pow-suc 256 (k + d), power_le k d))

-- a number of some width is of any larger one
pub signed_at_wider : (at width m : ℕ) (file : List ℕ) → Bytes file → 0 < width → width ≤ suc m
    → at + width ≤ length file
    → OfWidth m (signed_at at width file)
signed_at_wider at zero m file byte l h k = absurd (lt_irrefl 0 l)
signed_at_wider at (suc width) m file byte l h k =
    let e : width + (m - width) ≡ m = omega (arith, h) in
    omega (
      arith,
      signed_at_width at width file byte k,
      subst (λ j. 256 ^ width ≤ 256 ^ j) e (power_le width (m - width)),
    )

-- the lowest bytes of a number, as the machine takes them
unfoldable pub low_bytes : ℕ → ℤ → List ℕ
low_bytes zero z = []
low_bytes (suc width) z = modulo z 256 ∷ low_bytes width (shr_z z 256)

low_pos : (width n : ℕ) → low_bytes width (pos n) ≡ bytes_of width n
unfolding low_bytes bytes_of modulo
low_pos zero n = refl
low_pos (suc width) n = ap (λ r. n % 256 ∷ r) (low_pos width (n / 256))

low_negsuc : (width n : ℕ) → n < 256 ^ width → low_bytes width (negsuc n) ≡ bytes_of width (256 ^ width - suc n)
unfolding low_bytes bytes_of modulo
low_negsuc zero n l = refl
low_negsuc (suc width) n l =
    let p = pow-suc 256 width in
    let low : 256 - 1 - n % 256 ≡ (256 ^ suc width - suc n) % 256 = omega (arith, l, p) in
    let high : 256 ^ width - suc (n / 256) ≡ (256 ^ suc width - suc n) / 256 = omega (arith, l, p) in
    ap (λ r. (256 - 1 - n % 256) ∷ r) (low_negsuc width (n / 256) (omega (arith, l, p)))
    ∙ (λ i. low i ∷ bytes_of width (high i))

-- they are the number's bytes
pub low_bytes_lem : (k : ℕ) (z : ℤ) → OfWidth k z → low_bytes (suc k) z ≡ signed_bytes (suc k) z
unfolding signed_bytes unsigned_of
low_bytes_lem k (pos n) l = low_pos (suc k) n
low_bytes_lem k (negsuc n) l = low_negsuc (suc k) n (omega (arith, l, pow-suc 256 k))

pub low_length : (width : ℕ) (z : ℤ) → length (low_bytes width z) ≡ width
unfolding low_bytes
low_length zero z = refl
low_length (suc width) z = ap suc (low_length width (shr_z z 256))

-- what is left of a number when k bytes are taken off
abbrev pub above : ℕ → ℤ → ℤ
above zero z = z
above (suc k) z = above k (shr_z z 256)

pub above_next : (k : ℕ) (z : ℤ) → shr_z (above k z) 256 ≡ above (suc k) z
above_next zero z = refl
above_next (suc k) z = above_next k (shr_z z 256)

pub above_le : (k : ℕ) (z : ℤ) → mag (above k z) ≤ mag z
above_le zero z = omega arith
above_le (suc k) z = omega (arith, above_le k (shr_z z 256), mag_shr z 256)

pub low_nth : (width k : ℕ) (z : ℤ) → k < width → get_or (low_bytes width z) k 0 ≡ modulo (above k z) 256
unfolding low_bytes
low_nth zero k z l = absurd (lt_irrefl 0 (omega arith))
low_nth (suc width) zero z l = refl
low_nth (suc width) (suc k) z l = low_nth width k (shr_z z 256) (omega arith)
