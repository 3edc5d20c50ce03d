-- `night::night_of` meets its contract: the instants of a date are within a century.
use Rattle.std.specs.Prelude.{Ok}
use Rattle.std.proofs.Common.{sym, ap, ◌∙◌}
use Rattle.rules.specs.Night.{night_of, night_at}
use Rattle.laws.specs.PassedUp.{passed_up}
use Rattle.laws.specs.Instants.{ut_within, tt_within}
use Rattle.night.proofs.night_of.Goals as goal

-- ---- a refusal

pub returns-in_err-at : goal.returns-in_err-at
unfolding night_of night_at
returns-in_err-at c =
    passed_up c.from_residual.result c.in_err-at.field-0.0 c.from_residual.ensures.1
    ∙ ap (λ i. night_at i c.args.site) (sym (sym c.instants.ensures ∙ c.in_err-at.was))

pub returns-then-site_refused : goal.returns-then-site_refused
unfolding night_of night_at
returns-then-site_refused c =
    let is = sym c.instants.ensures ∙ c.in_ok-at.was in
    let out = sym c.site_refused.ensures ∙ c.if-site_refused.true in
    rw (is, out)

-- ---- the night

pub night_at-requires : goal.night_at-requires
night_at-requires c =
    let at = c.in_ok-at.at in
    let is = sym c.instants.ensures ∙ c.in_ok-at.was in
    record {
      ut_in = ut_within c.args.moment at.ut at.tt is;
      tt_in = tt_within c.args.moment at.ut at.tt is;
      accepted = sym c.site_refused.ensures ∙ c.if-site_refused.false;
    }

pub returns : goal.returns
unfolding night_of night_at
returns c =
    let is = sym c.instants.ensures ∙ c.in_ok-at.was in
    let accepted = sym c.site_refused.ensures ∙ c.if-site_refused.false in
    rw (is, accepted) (ap Ok c.night_at.ensures)
