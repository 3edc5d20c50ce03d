-- The two remainders: `modulo`, never negative, by the machine's remainder; and how far each reaches.
use Rattle.std.specs.Prelude.{◌≡◌, refl, ◌⊎◌, true, false, ℕ, suc, ◌+◌, ◌-◌, ◌%◌, ◌<◌, ℤ, pos, negsuc, neg_ℤ, nat_abs, ◌+ℤ◌, ◌<ℤ◌}
use Rattle.std.proofs.Common.{ap, ◌∙◌, inl, inr, ⊎_elim, mod-eq_of_lt, mod-lt, lt_of_not-le, arith, lit<, ltb→lt}
use Rattle.std.proofs.Math.Nat.{suc-mod, mod_self}
use Rattle.std.proofs.Math.Decide.{dec_lt}
use Rattle.std.specs.Int.Signed.{rem_z, lt_z}
use Rattle.integers.specs.Difference.{lt_z_true, lt_z_false, eq_of_parts, add_is, pos_part_neg, neg_part_neg}
use Rattle.integers.specs.Quotient.{rem_lt}
use Rattle.rules.specs.Units.{circle}
use Rattle.rules.specs.Rounding.{modulo, remainder}

-- n and one more: the next remainder, or none
next_rest : (n d : ℕ) → 0 < d → ((suc n % d ≡ 0) × (n % d + 1 ≡ d)) ⊎ (suc n % d ≡ n % d + 1)
next_rest n d h = by (dec_lt (suc (n % d)) d)
  where
    by : Dec (suc (n % d) < d) → ((suc n % d ≡ 0) × (n % d + 1 ≡ d)) ⊎ (suc n % d ≡ n % d + 1)
    by (yes k) = inr (suc-mod n d ∙ mod-eq_of_lt k ∙ omega arith)
    by (no k) =
        let e : suc (n % d) ≡ d = omega (arith, lt_of_not-le k, mod-lt n h) in
        inl (suc-mod n d ∙ ap (λ m. m % d) e ∙ mod_self d, omega arith)

pub modulo_lt : (a : ℤ) (d : ℕ) → 0 < d → modulo a d < d
unfolding modulo
modulo_lt (pos n) d h = mod-lt n h
modulo_lt (negsuc n) d h = omega arith

-- the remainder, and the divisor more where it is below nought
pub modulo_of_negative : (a d : ℤ) → pos 0 <ℤ d → lt_z (rem_z a d) (pos 0) ≡ true
    → rem_z a d +ℤ d ≡ pos (modulo a (nat_abs d))
unfolding modulo
modulo_of_negative a (negsuc d) h t = absurd h.lt
modulo_of_negative (pos n) (pos d) h t = absurd (omega (arith, lt_z_true (pos (n % d)) (pos 0) t))
modulo_of_negative (negsuc n) (pos d) h t =
    let m = pos (suc n % d) in
    let k = ltb→lt 0 d h.lt in
    let l = lt_z_true (neg_ℤ m) (pos 0) t in
    eq_of_parts (neg_ℤ m +ℤ pos d) (pos (d - 1 - n % d))
    (⊎_elim (λ e. omega (arith, add_is (neg_ℤ m) (pos d), pos_part_neg m, neg_part_neg m))
    (λ e. omega (arith, add_is (neg_ℤ m) (pos d), pos_part_neg m, neg_part_neg m, mod-lt n k)) (next_rest n d k))

pub modulo_of_nonnegative : (a d : ℤ) → pos 0 <ℤ d → lt_z (rem_z a d) (pos 0) ≡ false
    → rem_z a d ≡ pos (modulo a (nat_abs d))
unfolding modulo
modulo_of_nonnegative a (negsuc d) h t = absurd h.lt
modulo_of_nonnegative (pos n) (pos d) h t = refl
modulo_of_nonnegative (negsuc n) (pos d) h t =
    let m = pos (suc n % d) in
    let k = ltb→lt 0 d h.lt in
    let l = lt_z_false (neg_ℤ m) (pos 0) t in
    eq_of_parts (neg_ℤ m) (pos (d - 1 - n % d))
    (⊎_elim (λ e. omega (arith, pos_part_neg m, neg_part_neg m))
    (λ e. omega (arith, pos_part_neg m, neg_part_neg m)) (next_rest n d k))

pub remainder_lt : (a : ℤ) → nat_abs (remainder a) < circle
unfolding remainder
remainder_lt a = rem_lt a (pos circle) (lit< tt)
