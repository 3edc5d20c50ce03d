-- `precession::obliquity` meets its contract.
use Rattle.std.specs.Prelude.{Ok}
use Rattle.std.proofs.Common.{ap, ◌∙◌}
use Rattle.rules.specs.Polynomials.{instant_refused, angle_at}
use Rattle.rules.specs.Precession.{obliquity, obliquity_at}
use Rattle.laws.specs.PassedUp.{passed_up}
use Rattle.words.specs.Fits.{held64}
use Rattle.polynomials.proofs.HandedOn.{still_refused, made}
use Rattle.precession.proofs.obliquity.Goals as goal

pub returns-in_err-in_range : goal.returns-in_err-in_range
unfolding obliquity_at angle_at
returns-in_err-in_range c =
    let t = c.args.t in
    passed_up c.from_residual.result c.in_err-in_range.field-0.0 c.from_residual.ensures.1
    ∙ still_refused (instant_refused t.0) t (obliquity t) c.in_err-in_range.ensures

pub returns : goal.returns
unfolding obliquity_at angle_at
returns c =
    ap Ok (held64 c.obliquity_of.result c.obliquity_of.type_inv ∙ c.obliquity_of.ensures) ∙ made obliquity (instant_refused c.args.t.0) c.args.t c.in_ok-in_range.ensures
