-- `polynomials::range::in_range` meets its contract.
use Rattle.std.proofs.Common.{sym, ◌∙◌}
use Rattle.laws.specs.Instant.{in_range_lem}
use Rattle.words.specs.Fits.{held64}
use Rattle.polynomials.proofs.range.in_range.Goals as goal

pub invariant_of-result : goal.invariant_of-result
invariant_of-result g c =
    let refused = rw (held64 c.ms.result c.ms.type_inv ∙ c.ms.ensures) at c.instant_refused.ensures in
    in_range_lem (g.T.Instant.ms c.args.t) (sym refused ∙ c.if-instant_refused.false)
