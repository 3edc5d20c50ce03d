-- `nutation::nutation` meets its contract.
use Rattle.std.specs.Prelude.{Ok}
use Rattle.std.proofs.Common.{ap, ◌∙◌}
use Rattle.rules.specs.Polynomials.{instant_refused}
use Rattle.rules.specs.Nutation.{nutation, nutation_at}
use Rattle.laws.specs.PassedUp.{passed_up}
use Rattle.polynomials.proofs.HandedOn.{still_refused, made}
use Rattle.nutation.proofs.nutation.Goals as goal

pub returns-in_err-in_range : goal.returns-in_err-in_range
unfolding nutation_at
returns-in_err-in_range c =
    let t = c.args.t in
    passed_up c.from_residual.result c.in_err-in_range.field-0.0 c.from_residual.ensures.1
    ∙ still_refused (instant_refused t.0) t (nutation t) c.in_err-in_range.ensures

pub returns : goal.returns
unfolding nutation_at
returns c =
    ap Ok (c.nutation_of.ensures) ∙ made nutation (instant_refused c.args.t.0) c.args.t c.in_ok-in_range.ensures
