-- `answers::observed::beside_out` meets its contract: the branch taken is that of the two numbers.
use Rattle.std.proofs.Common.{◌≡◌, pos, arith, rules}
use Rattle.std.proofs.lemmas.Int.{ints}
use Rattle.laws.specs.Units.{same_of, not_same}
use Rattle.answers.specs.Answers.{none_observed, beside_out}
use Rattle.answers.proofs.observed.beside_out.Goals as goal

pub returns-then-p-ne0 : goal.returns-then-p-ne0
unfolding beside_out none_observed
returns-then-p-ne0 c = rw (not_same c.args.p.refused (pos 0) (λ e. omega (arith, ints))) (search rules)

pub returns-then-seen-ne0 : goal.returns-then-seen-ne0
unfolding beside_out none_observed
returns-then-seen-ne0 c =
    let placed : c.args.p.refused ≡ pos 0 = omega (arith, ints) in
    rw (same_of c.args.p.refused (pos 0) placed, not_same c.args.seen.refused (pos 0) (λ e. omega (arith, ints)))
    (search rules)

pub returns : goal.returns
unfolding beside_out
returns c =
    let placed : c.args.p.refused ≡ pos 0 = omega (arith, ints) in
    let seen : c.args.seen.refused ≡ pos 0 = omega (arith, ints) in
    rw (same_of c.args.p.refused (pos 0) placed, same_of c.args.seen.refused (pos 0) seen) (search rules)
