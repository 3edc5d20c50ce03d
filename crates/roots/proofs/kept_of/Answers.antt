-- `roots::kept_of` meets its contract: from ROOTS on the square of a trial is above every i64, and below it is one.
use Rattle.std.specs.Prelude.{◌≡◌, false, cond, ℕ, ◌+◌, ◌*◌, ◌-◌, ◌<◌, ◌^◌, leb, pos, nat_abs}
use Rattle.std.proofs.Common.{arith, sym, ap, ◌∙◌}
use native.Mathlib.Nat.{mul-le-mul}
use borrow.Author.Tests.{ltb-true, ltb-false, lt-leb}
use lib.Signed.{pos-nat_abs, yes_non_neg}
use Rattle.rules.specs.Length.{kept}
use Rattle.words.specs.Fits.{size64_lt}
use Rattle.words.specs.Holds.{Holds, bits, ◌+ʷ◌, got, bounded, add, mul}
use Rattle.roots.proofs.kept_of.Goals as goal
use Rattle.roots.proofs.kept_of.Goals.{Joined-else-trial-lt-ROOTS}
use Rattle.roots.proofs.kept_of.Goals.{else-trial-lt-ROOTS-via-then-trial-lt-ROOTS+else-trial-n, else-trial-lt-ROOTS-via-else-trial-lt-ROOTS}

not_kept : (n l p : ℕ) → leb ((l + p) * (l + p)) n ≡ false → l ≡ kept n l p
not_kept n l p e = ap (λ b. cond b (l + p) l) (sym e)

module _ (c : Joined-else-trial-lt-ROOTS) where
  abbrev number : ℕ
  number = nat_abs c.args.n

  abbrev trial : ℕ
  trial = nat_abs c.args.low + nat_abs c.args.power

  number_lt : number < 2 ^ 63
  number_lt = size64_lt c.args.n c.ranges.n c.requires.number

  number_holds : Holds (bits c.args.n) (pos number) (2 ^ 63 - 1)
  number_holds = got (sym (pos-nat_abs c.args.n (yes_non_neg c.requires.number))) (omega (arith, number_lt)) tt

  low_holds : Holds (bits c.args.low) (pos (nat_abs c.args.low)) (2 ^ 32)
  low_holds = got c.requires.low_is (omega (arith, c.requires.within)) tt

  power_holds : Holds (bits c.args.power) (pos (nat_abs c.args.power)) (2 ^ 32)
  power_holds = got c.requires.power_is (omega (arith, c.requires.within)) tt

  trial_holds : Holds (bits c.args.low +ʷ bits c.args.power) (pos trial) (2 ^ 33)
  trial_holds = add low_holds power_holds tt

pub returns-else-trial-lt-ROOTS : goal.returns-else-trial-lt-ROOTS
returns-else-trial-lt-ROOTS c =
    let n = number c in
    let last = not_kept n (nat_abs c.args.low) (nat_abs c.args.power) in
    elim c.else-trial-lt-ROOTS.branch [
      | else-trial-lt-ROOTS-via-then-trial-lt-ROOTS+else-trial-n w ↦
          let small = ltb-true (trial c) _ (rw (trial_holds c).value at w.if-trial-lt-ROOTS.true) in
          let root = bounded 3037000499 (trial_holds c) (omega (arith, small)) in
          (low_holds c).value
          ∙ ap pos (last (rw ((mul root root tt).value, (number_holds c).value) at w.if-trial-n.false))
      | else-trial-lt-ROOTS-via-else-trial-lt-ROOTS w ↦
          let large = ltb-false (trial c) _ (rw (trial_holds c).value at w.if-trial-lt-ROOTS.false) in
          let above : n < trial c * trial c = omega (arith, number_lt c, mul-le-mul large large) in
          (low_holds c).value ∙ ap pos (last (lt-leb (trial c * trial c) n above))
    ]
