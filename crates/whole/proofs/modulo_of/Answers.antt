-- `whole::modulo_of` meets its contract.
use mathlib.Core.Path.{◌≡◌}
use native.Mathlib.Omega.{arith}
use lib.IntN.{pos, nat_abs, ◌+ℤ◌}
use lib.Signed.{rem_z}
use mir.Syntax.{w64}
use mir.Val.{to_z, of_z, SFits}
use mir.Facts.{to_z-of_z}
use Rattle.integers.specs.Quotient.{size_pos}
use Rattle.words.specs.Fits.{fits64, size64, rem_fits, quot_ok}
use Rattle.rules.specs.Rounding.{modulo}
use Rattle.laws.specs.Modulo.{modulo_lt, modulo_of_negative, modulo_of_nonnegative}
use Rattle.whole.proofs.modulo_of.Goals as goal

a_held : (c : goal.Start) → to_z w64 (of_z w64 c.args.a) ≡ c.args.a
a_held c = to_z-of_z c.ranges.a

d_held : (c : goal.Start) → to_z w64 (of_z w64 c.args.d) ≡ c.args.d
d_held c = to_z-of_z c.ranges.d

rest_held : (c : goal.Start) → to_z w64 (of_z w64 (rem_z c.args.a c.args.d)) ≡ rem_z c.args.a c.args.d
rest_held c = to_z-of_z (rem_fits c.args.a c.args.d c.ranges.a)

ruleset held = (a_held, d_held, rest_held)

pub nonzero_rem-r : goal.nonzero_rem-r
nonzero_rem-r c = quot_ok c.args.a c.args.d c.ranges.a c.ranges.d c.requires

-- below nought, the sum is what the rule says, and so below the divisor
sum_is : (c : goal.Then-r-lt0)
    → rem_z c.before.args.a c.before.args.d +ℤ c.before.args.d
    ≡ pos (modulo c.before.args.a (nat_abs c.before.args.d))
sum_is c = modulo_of_negative c.before.args.a c.before.args.d c.before.requires (simp held at c.if-r-lt0.true)

sum_fits : (c : goal.Then-r-lt0) → SFits w64 (rem_z c.before.args.a c.before.args.d +ℤ c.before.args.d)
sum_fits c =
    let start = c.before in
    let a = start.args.a in
    let d = start.args.d in
    rw (sum_is c) (fits64 (pos (modulo a (nat_abs d)))
    (omega (arith, modulo_lt a (nat_abs d) (size_pos d start.requires), size64 d start.ranges.d)))

pub overflow_add-result : goal.overflow_add-result
overflow_add-result c = simp held (sum_fits c)

pub returns-then-r-lt0 : goal.returns-then-r-lt0
returns-then-r-lt0 c = simp (held, to_z-of_z (sum_fits c)) (sum_is c)

pub returns-else-r-lt0 : goal.returns-else-r-lt0
returns-else-r-lt0 c = simp held
    (modulo_of_nonnegative c.before.args.a c.before.args.d c.before.requires (simp held at c.if-r-lt0.false))
