-- `decimals::append` meets its contract.
use Rattle.std.specs.Prelude.{◌≡◌, true, false, List, [], ◌∷◌, ◌++◌, ℕ, ◌<◌, ℤ, pos, nat_abs, length}
use Rattle.std.proofs.Common.{ap, ◌∙◌, append_assoc, arith, to_z-of_z, length-append, rules}
use Rattle.std.specs.Int.Signed.{lt_z}
use Rattle.words.specs.Fits.{size64}
use Rattle.rules.specs.Times.{decimal}
use Rattle.laws.specs.Decimal as law
use Rattle.decimals.proofs.append.Goals.{then-n-lt0, else-n-lt0}
use Rattle.decimals.proofs.append.Goals as goal

module _ (z : ℤ) (old : List ℕ) (h : nat_abs z < law.limit 18) where
  abbrev digits : List ℕ
  digits = law.last_digits (law.width 18 (nat_abs z)) (nat_abs z)

  with_minus : lt_z z (pos 0) ≡ true → (old ++ 45 ∷ []) ++ digits ≡ old ++ decimal z
  with_minus e = rw (law.decimal_neg z h e, append_assoc)

  without : lt_z z (pos 0) ≡ false → old ++ digits ≡ old ++ decimal z
  without e = rw (law.decimal_pos z h e)

pub append_digits-requires : goal.append_digits-requires
append_digits-requires g c =
    let w = rw (to_z-of_z c.ranges.n) at c.width.ensures in
    let l = law.width_le 18 (nat_abs c.args.n) in
    elim c.if-n-lt0.branch [
      | then-n-lt0 b ↦ (search rules, rw b.out-is (omega (arith, b.push.ensures.len, w, l, c.requires)))
      | else-n-lt0 b ↦ (search rules, rw b.out-is (omega (arith, w, l, c.requires)))
    ]

pub returns-clause-items : goal.returns-clause-items
returns-clause-items g c =
    let n = c.args.n in
    let m = c.args.out.now.items in
    let h = law.word_limit n (size64 n c.ranges.n) in
    let f = to_z-of_z c.ranges.n in
    let w = rw f at c.width.ensures in
    let p = rw (f, w) at c.append_digits.ensures.items in
    elim c.if-n-lt0.branch [
      | then-n-lt0 b ↦ (p ∙ rw (b.out-is, b.push.ensures.items) (with_minus n m h (rw f at b.if-n-lt0.true)))
      | else-n-lt0 b ↦ (p ∙ rw b.out-is (without n m h (rw f at b.if-n-lt0.false)))
    ]

pub returns-clause-short : goal.returns-clause-short
returns-clause-short g c =
    let n = c.args.n in
    let l = law.length_decimal n (law.word_limit n (size64 n c.ranges.n)) in
    omega (arith, ap length (returns-clause-items g c), length-append c.args.out.now.items (decimal n), l)
