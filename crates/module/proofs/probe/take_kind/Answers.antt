-- `module::probe::take_kind` meets its contract: the branch taken is that of the kind.
use Rattle.std.proofs.Common.{◌≡◌, pos, arith}
use Rattle.std.proofs.lemmas.Int.{ints}
use Rattle.rules.specs.Units.{same}
use Rattle.laws.specs.Units.{not_same}
use Rattle.answers.specs.Given.{taken_by_kind}
use Rattle.module.proofs.probe.take_kind.Goals as goal

pub returns-in-0 : goal.returns-in-0
unfolding taken_by_kind same
returns-in-0 c =
    let e : c.args.kind ≡ pos 0 = omega (arith, ints) in
    rw e c.take_from.ensures

pub returns-in-1 : goal.returns-in-1
unfolding taken_by_kind same
returns-in-1 c =
    let e : c.args.kind ≡ pos 1 = omega (arith, ints) in
    rw e c.take_from-in-1.ensures

pub returns-in-2 : goal.returns-in-2
unfolding taken_by_kind same
returns-in-2 c =
    let e : c.args.kind ≡ pos 2 = omega (arith, ints) in
    rw e c.take_from-in-2.ensures

pub returns-in_default : goal.returns-in_default
unfolding taken_by_kind
returns-in_default c =
    let kind = c.args.kind in
    rw (
      not_same kind (pos 0) (λ e. omega (arith, ints)),
      not_same kind (pos 1) (λ e. omega (arith, ints)),
      not_same kind (pos 2) (λ e. omega (arith, ints)),
    )
