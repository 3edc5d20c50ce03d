-- `calendar::years::is_leap` meets its contract: a remainder's bits are nought exactly where the remainder of the size is.
use Rattle.std.specs.Prelude.{◌≡◌, refl, ℕ, zero, suc, ◌%◌, ◌≤◌, ◌<◌, eqb, ℤ, pos, negsuc, neg_ℤ, nat_abs}
use Rattle.std.proofs.Common.{sym, ◌∙◌, arith, SFits, of_z, to_z, to_z-of_z, mod-lt}
use Rattle.std.specs.Int.{w64}
use Rattle.std.specs.Int.Signed.{rem_z}
use borrow.Author.Tests.{eq-eqb, ne_eqb}
use Rattle.rules.specs.Years.{leap}
use Rattle.calendar.proofs.years.is_leap.Goals as goal

bits_are : (r : ℕ) → r < 400 → eqb (of_z w64 (neg_ℤ (pos r))) 0 ≡ eqb r 0
bits_are zero h = refl
bits_are (suc r) h = ne_eqb _ _ (λ e. absurd (omega arith)) ∙ sym (ne_eqb (suc r) 0 (λ e. absurd (omega arith)))

rest_is : (z : ℤ) (d : ℕ) → 0 < d → d ≤ 400 → eqb (of_z w64 (rem_z z (pos d))) 0 ≡ eqb (nat_abs z % d) 0
rest_is (pos n) d p q = refl
rest_is (negsuc n) d p q = bits_are (suc n % d) (omega (arith, mod-lt (suc n) p))

tested : (z : ℤ) → SFits w64 z → (d : ℕ) → 0 < d → d ≤ 400
    → eqb (of_z w64 (rem_z (to_z w64 (of_z w64 z)) (pos d))) 0 ≡ eqb (nat_abs z % d) 0
tested z f d p q = rw (to_z-of_z f) (rest_is z d p q)

pub returns-then-year-ne0 : goal.returns-then-year-ne0
unfolding leap
returns-then-year-ne0 c =
    let rest = tested c.args.year c.ranges.year in
    let four = sym (rest 4 (omega arith) (omega arith)) ∙ eq-eqb _ _ c.if-year-eq0.true in
    let hundred = ne_eqb _ _ c.if-year-ne0.true in
    rw (hundred, four, sym (rest 100 (omega arith) (omega arith)) ∙ hundred)

pub returns-else-year-ne0 : goal.returns-else-year-ne0
unfolding leap
returns-else-year-ne0 c =
    let rest = tested c.args.year c.ranges.year in
    let four = sym (rest 4 (omega arith) (omega arith)) ∙ eq-eqb _ _ c.if-year-eq0.true in
    let hundred = sym (rest 100 (omega arith) (omega arith)) ∙ eq-eqb _ _ c.if-year-ne0.false in
    rw (rest 400 (omega arith) (omega arith), four, hundred)

pub returns-else-year-eq0 : goal.returns-else-year-eq0
unfolding leap
returns-else-year-eq0 c =
    let four = ne_eqb _ _ c.if-year-eq0.false in
    rw (four, sym (tested c.args.year c.ranges.year 4 (omega arith) (omega arith)) ∙ four)
