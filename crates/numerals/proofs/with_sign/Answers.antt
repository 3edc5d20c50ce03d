-- `numerals::with_sign` meets its contract.
use Rattle.std.proofs.Common.{sym, ◌∙◌, to_z-of_z}
use Rattle.words.specs.Holds.{arg, negate}
use Rattle.numerals.proofs.with_sign.Goals as goal

pub returns-then-negative : goal.returns-then-negative
returns-then-negative c =
    let e = sym c.negative.ensures ∙ c.if-negative.true in
    let size = arg c.args.n c.requires tt in
    rw (e, (negate size tt).value)

pub returns-else-negative : goal.returns-else-negative
returns-else-negative c =
    let e = sym c.negative.ensures ∙ c.if-negative.false in
    rw (e, to_z-of_z c.ranges.n)
