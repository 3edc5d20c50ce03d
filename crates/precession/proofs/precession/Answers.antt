-- `precession::precession` meets its contract.
use Rattle.std.specs.Prelude.{Ok}
use Rattle.std.proofs.Common.{ap, ◌∙◌}
use Rattle.rules.specs.Polynomials.{instant_refused}
use Rattle.rules.specs.Precession.{precession, precession_at}
use Rattle.laws.specs.PassedUp.{passed_up}
use Rattle.polynomials.proofs.HandedOn.{still_refused, made}
use Rattle.precession.proofs.precession.Goals as goal

pub returns-in_err-in_range : goal.returns-in_err-in_range
unfolding precession_at
returns-in_err-in_range c =
    let t = c.args.t in
    passed_up c.from_residual.result c.in_err-in_range.field-0.0 c.from_residual.ensures.1
    ∙ still_refused (instant_refused t.0) t (precession t) c.in_err-in_range.ensures

pub returns : goal.returns
unfolding precession_at
returns c =
    ap Ok (c.precession_of.ensures) ∙ made precession (instant_refused c.args.t.0) c.args.t c.in_ok-in_range.ensures
