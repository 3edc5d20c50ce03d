-- `rounding::rnd_short_quotient` meets its contract: rounding is odd, so the law of sizes gives both signs.
use Prim.Native.Nat.{suc, ◌+◌, ◌/◌}
use mathlib.Core.Path.{◌≡◌, ap, ◌∙◌}
use mathlib.Core.Bool.{true, false}
use native.Mathlib.Omega.{arith}
use lib.Dec.{ltb→lt}
use lib.IntN.{ℤ, pos, negsuc, neg_ℤ, nat_abs, ◌+ℤ◌, ◌-ℤ◌}
use lib.Signed.{quot_z, lt_z, ◌<ℤ◌}
use Rattle.integers.specs.Difference.{lt_z_true, lt_z_false}
use Rattle.integers.specs.Quotient.{quot_neg}
use Rattle.integers.specs.Sign.{neg_add_neg}
use Rattle.words.specs.Holds.{arg, add, sub, div, div_lit}
use Rattle.rules.specs.Rounding.{rnd}
use Rattle.laws.specs.Rounding.{rnd_pos}
use Rattle.rounding.proofs.Half.{rnd_size_by_half}
use Rattle.rounding.proofs.rnd_short_quotient.Goals as goal

-- ---- half of the divisor more, rounded down

rnd_of_nonnegative : (a b : ℤ) → pos 0 <ℤ b → lt_z a (pos 0) ≡ false
    → quot_z (a +ℤ quot_z b (pos 2)) b ≡ rnd a (nat_abs b)
rnd_of_nonnegative (pos n) (pos d) h t = rw (rnd_pos n d) (ap pos (rnd_size_by_half n d (ltb→lt 0 d h.lt)))
rnd_of_nonnegative (negsuc n) (pos d) h t = absurd (omega (arith, lt_z_false (negsuc n) (pos 0) t))
rnd_of_nonnegative a (negsuc d) h t = absurd h.lt

rnd_of_negative : (a b : ℤ) → pos 0 <ℤ b → lt_z a (pos 0) ≡ true
    → quot_z (a -ℤ quot_z b (pos 2)) b ≡ rnd a (nat_abs b)
unfolding rnd
rnd_of_negative (pos n) (pos d) h t = absurd (omega (arith, lt_z_true (pos n) (pos 0) t))
rnd_of_negative (negsuc n) (pos d) h t =
    ap (λ z. quot_z z (pos d)) (neg_add_neg (pos (suc n)) (pos (d / 2)))
    ∙ quot_neg (pos (suc n + d / 2)) (pos d)
    ∙ ap (λ m. neg_ℤ (pos m)) (rnd_size_by_half (suc n) d (ltb→lt 0 d h.lt))
rnd_of_negative a (negsuc d) h t = absurd h.lt

-- ---- the answer

pub returns-then-a-lt0 : goal.returns-then-a-lt0
returns-then-a-lt0 c =
    let a = arg c.args.a c.requires.a_bound tt in
    let b = arg c.args.b c.requires.b_bound tt in
    let half = div_lit 2 b tt tt tt in
    (div (sub a half tt) b c.requires.pos_bound tt).value
    ∙ rnd_of_negative c.args.a c.args.b c.requires.pos_bound (rw a.value at c.if-a-lt0.true)

pub returns-else-a-lt0 : goal.returns-else-a-lt0
returns-else-a-lt0 c =
    let a = arg c.args.a c.requires.a_bound tt in
    let b = arg c.args.b c.requires.b_bound tt in
    let half = div_lit 2 b tt tt tt in
    (div (add a half tt) b c.requires.pos_bound tt).value
    ∙ rnd_of_nonnegative c.args.a c.args.b c.requires.pos_bound (rw a.value at c.if-a-lt0.false)
