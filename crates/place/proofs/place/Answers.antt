-- `place::place` meets its contract: the instants of a date are within a century.
use Rattle.std.specs.Prelude.{Ok}
use Rattle.std.proofs.Common.{sym, ap, ◌∙◌}
use Rattle.rules.specs.Place.{place, place_at, place_in}
use Rattle.laws.specs.PassedUp.{passed_up}
use Rattle.laws.specs.Instants.{ut_within, tt_within}
use Rattle.place.proofs.place.Goals as goal

-- ---- a refusal

pub returns-in_err-at : goal.returns-in_err-at
unfolding place place_at
returns-in_err-at c =
    passed_up c.from_residual.result c.in_err-at.field-0.0 c.from_residual.ensures.1
    ∙ ap (λ i. place_at i c.args.star c.args.site) (sym (sym c.instants.ensures ∙ c.in_err-at.was))

pub returns-then-star_refused : goal.returns-then-star_refused
unfolding place place_at
returns-then-star_refused c =
    let is = sym c.instants.ensures ∙ c.in_ok-at.was in
    let out = sym c.star_refused.ensures ∙ c.if-star_refused.true in
    rw (is, out)

pub returns-then-site_refused : goal.returns-then-site_refused
unfolding place place_at
returns-then-site_refused c =
    let is = sym c.instants.ensures ∙ c.in_ok-at.was in
    let star = sym c.star_refused.ensures ∙ c.if-star_refused.false in
    let out = sym c.site_refused.ensures ∙ c.if-site_refused.true in
    rw (is, star, out)

-- ---- the place

pub night_at-requires : goal.night_at-requires
night_at-requires c =
    let at = c.in_ok-at.at in
    let is = sym c.instants.ensures ∙ c.in_ok-at.was in
    record {
      ut_in = ut_within c.args.moment at.ut at.tt is;
      tt_in = tt_within c.args.moment at.ut at.tt is;
      accepted = sym c.site_refused.ensures ∙ c.if-site_refused.false;
    }

pub place_in-requires : goal.place_in-requires
place_in-requires c = sym c.star_refused.ensures ∙ c.if-star_refused.false

pub returns : goal.returns
unfolding place place_at
returns c =
    let is = sym c.instants.ensures ∙ c.in_ok-at.was in
    let star = sym c.star_refused.ensures ∙ c.if-star_refused.false in
    let site = sym c.site_refused.ensures ∙ c.if-site_refused.false in
    rw (is, star, site) (ap Ok (c.place_in.ensures ∙ ap (λ n. place_in n c.args.star) c.night_at.ensures))
