-- `rounding::rnd_by_unit` meets its contract: a shift rounds down, so below nought the half to be added is one less.
use Prim.Native.Nat.{ℕ, suc, ◌+◌, ◌-◌, ◌/◌, ◌≤◌, ◌^◌}
use mathlib.Core.Path.{◌≡◌, sym, ap, ◌∙◌}
use native.Mathlib.Decide.{dec_le}
use native.Mathlib.Nat.{lt_of_not-le}
use native.Mathlib.Omega.{arith}
use lib.Dec.{T, ltb, ltb→lt, lit<}
use lib.IntN.{ℤ, pos, negsuc, neg_ℤ, nat_abs, ◌+ℤ◌}
use lib.Signed.{shr_z, mag_shr}
use mir.Syntax.{w64}
use mir.Val.{to_z, of_z}
use mir.Facts.{to_z-of_z}
use mir.ValLaws.{sfits_le}
use Rattle.integers.specs.Difference.{pos_part, neg_part, add_is, eq_of_parts}
use Rattle.words.specs.Fits.{fits64}
use Rattle.words.specs.Holds.{Holds, bits, ◌+ʷ◌, arg, lit, add, add_ok}
use Rattle.rules.specs.Units.{unit}
use Rattle.rules.specs.Rounding.{rnd, rnd_size}
use Rattle.rounding.specs.Given.{most_dividend}
use Rattle.rounding.proofs.Half.{rnd_size_by_half}
use Rattle.rounding.proofs.rnd_by_unit.Goals as goal

abbrev half : ℕ
half = 536870912

-- ---- the sum, and its shift

rounded : (n : ℕ) → (n + half) / 2 ^ 30 ≡ rnd_size n unit
rounded n = rnd_size_by_half n unit (lit< tt)

-- what the sign bit copied to every place is
abbrev sign : ℤ → ℤ
sign (pos n) = pos 0
sign (negsuc n) = negsuc 0

sign_is : (a : ℤ) → nat_abs a ≤ most_dividend → shr_z a (2 ^ 63) ≡ sign a
sign_is (pos n) h = let e : n / 2 ^ 63 ≡ 0 = omega arith in ap pos e
sign_is (negsuc n) h = let e : n / 2 ^ 63 ≡ 0 = omega arith in ap negsuc e

shift_is : (a : ℤ) → shr_z (a +ℤ pos half +ℤ sign a) (2 ^ 30) ≡ rnd a unit
unfolding rnd
shift_is (pos n) = let e : n + half + 0 ≡ n + half = omega arith in ap pos (ap (λ m. m / 2 ^ 30) e ∙ rounded n)
shift_is (negsuc n) = by (dec_le (n + 2) half)
  where
    parts : (y : ℤ) → pos_part y + (n + 2) ≡ half + neg_part y → negsuc n +ℤ pos half +ℤ negsuc 0 ≡ y
    parts y e = eq_of_parts (negsuc n +ℤ pos half +ℤ negsuc 0) y
        (omega (arith, add_is (negsuc n) (pos half), add_is (negsuc n +ℤ pos half) (negsuc 0)))

    by : Dec (n + 2 ≤ half) → shr_z (negsuc n +ℤ pos half +ℤ negsuc 0) (2 ^ 30) ≡ neg_ℤ (pos (rnd_size (suc n) unit))
    by (yes k) =
        let none : (half - (n + 2)) / 2 ^ 30 ≡ 0 = omega arith in
        let zero : (suc n + half) / 2 ^ 30 ≡ 0 = omega arith in
        ap (λ z. shr_z z (2 ^ 30)) (parts (pos (half - (n + 2))) (omega arith))
        ∙ ap pos none
        ∙ ap (λ m. neg_ℤ (pos m)) (sym zero ∙ rounded (suc n))
    by (no k) =
        let l = lt_of_not-le k in
        let more : (suc n + half) / 2 ^ 30 ≡ suc ((n + 1 - half) / 2 ^ 30) = omega arith in
        ap (λ z. shr_z z (2 ^ 30)) (parts (negsuc (n + 1 - half)) (omega arith))
        ∙ ap (λ m. neg_ℤ (pos m)) (sym more ∙ rounded (suc n))

-- ---- what the word holds

shifted : {n : ℕ} {z : ℤ} {b : ℕ} (m : ℕ) → Holds n z b → T (ltb b (2 ^ 63))
    → to_z w64 (of_z w64 (shr_z (to_z w64 n) m)) ≡ shr_z z m
shifted {n} {z} {b} m h t =
    rw h.value (to_z-of_z (sfits_le (mag_shr z m) (fits64 z (omega (arith, h.size, ltb→lt b (2 ^ 63) t)))))

a_holds : (c : goal.Start) → Holds (bits c.args.a) c.args.a most_dividend
a_holds c = arg c.args.a c.requires tt

sign_le : (a : ℤ) → nat_abs (sign a) ≤ 1
sign_le (pos n) = omega arith
sign_le (negsuc n) = omega arith

sign_holds : (c : goal.Start) → Holds (bits (shr_z (to_z w64 (bits c.args.a)) (2 ^ 63))) (sign c.args.a) 1
sign_holds c = record {
  value = shifted (2 ^ 63) (a_holds c) tt ∙ sign_is c.args.a c.requires;
  size = sign_le c.args.a;
}

pub overflow_add-result : goal.overflow_add-result
overflow_add-result c = add_ok (a_holds c) (lit half tt) tt

half_holds : (c : goal.Start) → Holds (bits c.args.a +ʷ half) (c.args.a +ℤ pos half) (most_dividend + half)
half_holds c = add (a_holds c) (lit half tt) tt

pub overflow_add-result-2 : goal.overflow_add-result-2
overflow_add-result-2 c = add_ok (half_holds c) (sign_holds c) tt

pub returns : goal.returns
returns c = shifted (2 ^ 30) (add (half_holds c) (sign_holds c) tt) tt ∙ shift_is c.args.a
