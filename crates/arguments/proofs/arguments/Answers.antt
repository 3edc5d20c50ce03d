-- `arguments::arguments` meets its contract.
use Rattle.std.specs.Prelude.{Ok}
use Rattle.std.proofs.Common.{ap, ◌∙◌}
use Rattle.rules.specs.Polynomials.{instant_refused}
use Rattle.rules.specs.Arguments.{arguments, arguments_at}
use Rattle.laws.specs.PassedUp.{passed_up}
use Rattle.polynomials.proofs.HandedOn.{still_refused, made}
use Rattle.arguments.proofs.arguments.Goals as goal

pub returns-in_err-in_range : goal.returns-in_err-in_range
unfolding arguments_at
returns-in_err-in_range c =
    let t = c.args.t in
    passed_up c.from_residual.result c.in_err-in_range.field-0.0 c.from_residual.ensures.1
    ∙ still_refused (instant_refused t.0) t (arguments t) c.in_err-in_range.ensures

pub returns : goal.returns
unfolding arguments_at
returns c = ap Ok c.arguments_of.ensures ∙ made arguments (instant_refused c.args.t.0) c.args.t c.in_ok-in_range.ensures
