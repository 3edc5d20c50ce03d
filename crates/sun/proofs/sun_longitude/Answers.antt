-- `sun::sun_longitude` meets its contract.
use Rattle.std.specs.Prelude.{Ok}
use Rattle.std.proofs.Common.{ap, ◌∙◌}
use Rattle.rules.specs.Polynomials.{instant_refused, angle_at}
use Rattle.rules.specs.Sun.{sun_longitude, sun_longitude_at}
use Rattle.laws.specs.PassedUp.{passed_up}
use Rattle.words.specs.Fits.{held64}
use Rattle.polynomials.proofs.HandedOn.{still_refused, made}
use Rattle.sun.proofs.sun_longitude.Goals as goal

pub returns-in_err-in_range : goal.returns-in_err-in_range
unfolding sun_longitude_at angle_at
returns-in_err-in_range c =
    let t = c.args.t in
    passed_up c.from_residual.result c.in_err-in_range.field-0.0 c.from_residual.ensures.1
    ∙ still_refused (instant_refused t.0) t (sun_longitude t) c.in_err-in_range.ensures

pub returns : goal.returns
unfolding sun_longitude_at angle_at
returns c =
    ap Ok (held64 c.sun_longitude_of.result c.sun_longitude_of.type_inv ∙ c.sun_longitude_of.ensures) ∙ made sun_longitude (instant_refused c.args.t.0) c.args.t c.in_ok-in_range.ensures
