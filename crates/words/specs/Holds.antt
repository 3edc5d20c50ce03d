-- What 64 bits hold, with a bound on its size: `Holds n z b` says that the bits n are the integer z, and |z| ≤ b.
-- A need of a signed operation is answered by the operation's `-ok` from what its operands hold, and the operation
-- itself says what its result holds: `add_ok h k tt`, `add h k tt`. The bounds compute, so that `tt` shows the fit.
--   a parameter or a field: `arg`; one known to be a natural: `nat`; an i32 made an i64: `widened`, by `from`: `from_i32`
--   a call's result, by its `ensures`: `got`; a literal: `lit`; a better bound: `bounded`; the opposite: `negate`
--   where the operands' bounds do not show the fit: `add_to`, `sub_to`, `mul_to` with a bound of the result's own
use Rattle.std.specs.Prelude.{◌≡◌, refl, ℕ, zero, suc, ◌+◌, ◌*◌, ◌-◌, ◌/◌, ◌≤◌, ◌<◌, ◌^◌, T, ltb, ℤ, pos, negsuc, neg_ℤ, nat_abs, ◌+ℤ◌, ◌-ℤ◌, ◌*ℤ◌, ◌<ℤ◌}
use Rattle.std.proofs.Common.{◌∙◌, le_trans, le-div_iff_mul-le, div-mul-le_self, arith, ltb→lt, SFits, of_z, to_z, to_z-of_z}
use Rattle.std.proofs.Math.IntN.{+ℤ_idl}
use Rattle.std.specs.Int.Signed.{quot_z, rem_z}
use Rattle.std.specs.Int.{w32, w64}
use Rattle.std.proofs.Math.Facts.{to_z_pos}
use Rattle.integers.specs.Difference.{pos_sub}
use Rattle.integers.specs.Size.{abs_neg, abs_add, abs_sub, abs_mul_le}
use Rattle.integers.specs.Quotient.{quot_le, rem_lt, size_pos, abs_quot}
use Rattle.words.specs.Fits.{fits64, size32, widened_fits, quot_fits}

pub record Holds (n : ℕ) (z : ℤ) (b : ℕ) : Type 0 where
  pub value : to_z w64 n ≡ z
  pub size : nat_abs z ≤ b

-- ---- the machine's operations, on bits

abbrev pub bits : ℤ → ℕ
bits z = of_z w64 z

infixl 6 ◌+ʷ◌ ◌-ʷ◌
infixl 7 ◌*ʷ◌ ◌/ʷ◌ ◌%ʷ◌
abbrev pub ◌+ʷ◌ : ℕ → ℕ → ℕ
m +ʷ n = bits (to_z w64 m +ℤ to_z w64 n)

abbrev pub ◌-ʷ◌ : ℕ → ℕ → ℕ
m -ʷ n = bits (to_z w64 m -ℤ to_z w64 n)

abbrev pub ◌*ʷ◌ : ℕ → ℕ → ℕ
m *ʷ n = bits (to_z w64 m *ℤ to_z w64 n)

abbrev pub ◌/ʷ◌ : ℕ → ℕ → ℕ
m /ʷ n = bits (quot_z (to_z w64 m) (to_z w64 n))

abbrev pub ◌%ʷ◌ : ℕ → ℕ → ℕ
m %ʷ n = bits (rem_z (to_z w64 m) (to_z w64 n))

-- an i32 made an i64
abbrev pub widen : ℕ → ℕ
widen n = bits (to_z w32 n)

fits_at : (z : ℤ) (b : ℕ) → nat_abs z ≤ b → T (ltb b (2 ^ 63)) → SFits w64 z
fits_at z b h t = fits64 z (omega (arith, ltb→lt b (2 ^ 63) t))

-- ---- values

-- known by an equation, as a call's result is
pub got : {r z : ℤ} {b : ℕ} → r ≡ z → nat_abs z ≤ b → T (ltb b (2 ^ 63)) → Holds (bits r) z b
got {r} {z} {b} e h t = record { value = rw e (to_z-of_z (fits_at z b h t)); size = h }

pub arg : (z : ℤ) {b : ℕ} → nat_abs z ≤ b → T (ltb b (2 ^ 63)) → Holds (bits z) z b
arg z h t = got refl h t

pub lit : (n : ℕ) → T (ltb n (2 ^ 63)) → Holds n (pos n) n
lit n t = record { value = to_z_pos w64 (ltb→lt n (2 ^ 63) t); size = omega arith }

-- a number below the sign bit is held by itself
pub nat : (m : ℕ) {b : ℕ} → m ≤ b → T (ltb b (2 ^ 63)) → Holds m (pos m) b
nat m {b} h t = record { value = to_z_pos w64 (omega (arith, ltb→lt b (2 ^ 63) t)); size = h }

pub widened_ok : (z : ℤ) → SFits w32 z → SFits w64 (to_z w32 (of_z w32 z))
widened_ok z f = rw (to_z-of_z f) (widened_fits z f)

pub widened : (z : ℤ) → SFits w32 z → Holds (widen (of_z w32 z)) z (2 ^ 31)
widened z f = record { value = rw (to_z-of_z f) (to_z-of_z (widened_fits z f)); size = size32 z f }

-- an i32 made an i64 by `from`
pub from_i32 : (z r : ℤ) → SFits w32 z → r ≡ to_z w32 (of_z w32 z) → Holds (bits r) z (2 ^ 31)
from_i32 z r f e = rw e (widened z f)

-- a better bound
pub bounded : {n : ℕ} {z : ℤ} {b : ℕ} (a : ℕ) → Holds n z b → nat_abs z ≤ a → Holds n z a
bounded a h k = record { value = h.value; size = k }

-- ---- sums, differences, products

module _ {m n : ℕ} {x y : ℤ} {a b : ℕ} (h : Holds m x a) (k : Holds n y b) where
  pub add_to_ok : (e : ℕ) → nat_abs (x +ℤ y) ≤ e → T (ltb e (2 ^ 63)) → SFits w64 (to_z w64 m +ℤ to_z w64 n)
  add_to_ok e l t = rw (h.value, k.value) (fits_at (x +ℤ y) e l t)

  pub add_to : (e : ℕ) → nat_abs (x +ℤ y) ≤ e → T (ltb e (2 ^ 63)) → Holds (m +ʷ n) (x +ℤ y) e
  add_to e l t = record { value = to_z-of_z (add_to_ok e l t) ∙ rw (h.value, k.value); size = l }

  add_le : nat_abs (x +ℤ y) ≤ a + b
  add_le = omega (arith, abs_add x y, h.size, k.size)

  pub add_ok : T (ltb (a + b) (2 ^ 63)) → SFits w64 (to_z w64 m +ℤ to_z w64 n)
  add_ok t = add_to_ok (a + b) add_le t

  pub add : T (ltb (a + b) (2 ^ 63)) → Holds (m +ʷ n) (x +ℤ y) (a + b)
  add t = add_to (a + b) add_le t

  pub sub_to_ok : (e : ℕ) → nat_abs (x -ℤ y) ≤ e → T (ltb e (2 ^ 63)) → SFits w64 (to_z w64 m -ℤ to_z w64 n)
  sub_to_ok e l t = rw (h.value, k.value) (fits_at (x -ℤ y) e l t)

  pub sub_to : (e : ℕ) → nat_abs (x -ℤ y) ≤ e → T (ltb e (2 ^ 63)) → Holds (m -ʷ n) (x -ℤ y) e
  sub_to e l t = record { value = to_z-of_z (sub_to_ok e l t) ∙ rw (h.value, k.value); size = l }

  sub_le : nat_abs (x -ℤ y) ≤ a + b
  sub_le = omega (arith, abs_sub x y, h.size, k.size)

  pub sub_ok : T (ltb (a + b) (2 ^ 63)) → SFits w64 (to_z w64 m -ℤ to_z w64 n)
  sub_ok t = sub_to_ok (a + b) sub_le t

  pub sub : T (ltb (a + b) (2 ^ 63)) → Holds (m -ʷ n) (x -ℤ y) (a + b)
  sub t = sub_to (a + b) sub_le t

  pub mul_to_ok : (e : ℕ) → nat_abs (x *ℤ y) ≤ e → T (ltb e (2 ^ 63)) → SFits w64 (to_z w64 m *ℤ to_z w64 n)
  mul_to_ok e l t = rw (h.value, k.value) (fits_at (x *ℤ y) e l t)

  pub mul_to : (e : ℕ) → nat_abs (x *ℤ y) ≤ e → T (ltb e (2 ^ 63)) → Holds (m *ʷ n) (x *ℤ y) e
  mul_to e l t = record { value = to_z-of_z (mul_to_ok e l t) ∙ rw (h.value, k.value); size = l }

  pub mul_ok : T (ltb (a * b) (2 ^ 63)) → SFits w64 (to_z w64 m *ℤ to_z w64 n)
  mul_ok t = mul_to_ok (a * b) (abs_mul_le x y a b h.size k.size) t

  pub mul : T (ltb (a * b) (2 ^ 63)) → Holds (m *ʷ n) (x *ℤ y) (a * b)
  mul t = mul_to (a * b) (abs_mul_le x y a b h.size k.size) t

-- the opposite
pub negate_ok : {n : ℕ} {z : ℤ} {b : ℕ} → Holds n z b → T (ltb b (2 ^ 63)) → SFits w64 (pos 0 -ℤ to_z w64 n)
negate_ok {b = b} h t = sub_to_ok (lit 0 tt) h b (rw (+ℤ_idl (neg_ℤ _), abs_neg _) h.size) t

pub negate : {n : ℕ} {z : ℤ} {b : ℕ} → Holds n z b → T (ltb b (2 ^ 63)) → Holds (0 -ʷ n) (neg_ℤ z) b
negate {z = z} h t = record {
  value = to_z-of_z (negate_ok h t) ∙ rw h.value (+ℤ_idl (neg_ℤ z));
  size = rw (abs_neg z) h.size;
}

-- a difference of naturals that is none below nought
module _ {m n a b p q : ℕ} (h : Holds m (pos a) p) (k : Holds n (pos b) q) (l : b ≤ a) where
  pub sub_nat_ok : T (ltb (p + q) (2 ^ 63)) → SFits w64 (to_z w64 m -ℤ to_z w64 n)
  sub_nat_ok t = sub_ok h k t

  pub sub_nat : T (ltb (p + q) (2 ^ 63)) → Holds (m -ʷ n) (pos (a - b)) p
  sub_nat t = record { value = (sub h k t).value ∙ pos_sub a b l; size = omega (arith, h.size) }

-- ---- quotient and remainder by a divisor above nought

nought_below : (y : ℤ) → pos 0 ≡ y → pos 0 <ℤ y → ⊥
nought_below (pos zero) e p = p.lt
nought_below (pos (suc n)) e p = let z : ◌≡◌ {A = ℕ} 0 1 = cc in omega arith
nought_below (negsuc n) e p = p.lt

bits_above : (n : ℕ) (y : ℤ) → to_z w64 n ≡ y → pos 0 <ℤ y → 0 < n
bits_above zero y e p = absurd (nought_below y e p)
bits_above (suc n) y e p = omega arith

module _ {m n : ℕ} {x y : ℤ} {a b : ℕ} (h : Holds m x a) (k : Holds n y b) (p : pos 0 <ℤ y) where
  -- what a quotient asks; a remainder asks the same
  pub div_ok : T (ltb a (2 ^ 63)) → (0 < n) × SFits w64 (quot_z (to_z w64 m) (to_z w64 n))
  div_ok t =
      (bits_above n y k.value p, rw (h.value, k.value) (quot_fits x y (fits_at x a h.size t) p))

  pub div : T (ltb a (2 ^ 63)) → Holds (m /ʷ n) (quot_z x y) a
  div t = record { value = to_z-of_z (div_ok t).1 ∙ rw (h.value, k.value); size = le_trans (quot_le x y) h.size }

  pub rem : T (ltb b (2 ^ 63)) → Holds (m %ʷ n) (rem_z x y) (b - 1)
  rem t =
      let l : nat_abs (rem_z x y) ≤ b - 1 = omega (arith, rem_lt x y (size_pos y p), k.size) in
      record {
        value = rw (h.value, k.value) (to_z-of_z (fits64 (rem_z x y) (omega (arith, ltb→lt b (2 ^ 63) t))));
        size = l;
      }

-- by a literal, with the better bound
pub div_lit : {m : ℕ} {x : ℤ} {a : ℕ} (d : ℕ) → Holds m x a
    → T (ltb 0 d) → T (ltb d (2 ^ 63)) → T (ltb a (2 ^ 63)) → Holds (m /ʷ d) (quot_z x (pos d)) (a / d)
div_lit {m} {x} {a} d h p t u =
    bounded (a / d) (div h (lit d t) (record { lt = p }) u)
    (rw (abs_quot x (pos d)) (quotient_le (nat_abs x) a d (ltb→lt 0 d p) h.size))
  where
    quotient_le : (x a d : ℕ) → 0 < d → x ≤ a → x / d ≤ a / d
    quotient_le x a d p h = (le-div_iff_mul-le p).1 (le_trans (div-mul-le_self x d) h)
