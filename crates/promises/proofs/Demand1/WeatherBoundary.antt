-- Demand 1 at the boundary to C, of the weather (C-11): a struct is a refusal's number and noughts, or 14 and the record
-- as it was, exactly when that refusal is the first of the checks that is given; and the rule's answer exactly when none
-- is.
use Rattle.std.specs.Prelude.{◌≡◌, refl, ◌↔◌}
use Rattle.std.proofs.Common.{ap, ◌∙◌}
use Rattle.rules.specs.declared.Moment.{Moment}
use Rattle.rules.specs.declared.Star.{Star}
use Rattle.rules.specs.declared.Site.{Site}
use Rattle.rules.specs.declared.Weather.{Weather}
use Rattle.rules.specs.declared.Refusal.{Refusal}
use Rattle.rules.specs.Checks.{first}
use Rattle.rules.specs.Refusals.{given, refused}
use Rattle.rules.specs.Answers.{observed_answer}
use Rattle.rules.specs.Refraction.{observed_place}
use Rattle.laws.specs.Checks.{FirstGiven, NoneGiven}
use Rattle.answers.specs.Answers.{observed_out}
use Rattle.promises.specs.Demand1.Checks.{observed_checks}
use Rattle.promises.specs.Demand1.InOrder.{first_map, refused_exactly, answered_exactly}
use Rattle.promises.proofs.Demand1.Weather.{observed_place_answer}
use Rattle.promises.specs.Demand1.WeatherBoundary.{observed_refused, observed_given_at}

turbelicus_observed_place_checked : (m : Moment) (star : Star) (site : Site) (w : Weather)
    → observed_out (observed_answer (observed_place m star site w))
    ≡ first (observed_checks m star site w) observed_refused (observed_given_at m star site w)
unfolding observed_out observed_answer given refused
turbelicus_observed_place_checked m star site w = ap observed_out (observed_place_answer m star site w)
    ∙ first_map observed_out (observed_checks m star site w) (λ r. refused r 7) _

pub turbelicus_observed_place_refused : (m : Moment) (star : Star) (site : Site) (w : Weather) (r : Refusal)
    → (observed_out (observed_answer (observed_place m star site w)) ≡ observed_refused r)
    ↔ FirstGiven (observed_checks m star site w) r
turbelicus_observed_place_refused m star site w r = rw (turbelicus_observed_place_checked m star site w)
    (refused_exactly (λ a. a.refused) observed_refused _ (λ _. refl) refl (observed_checks m star site w) r)

pub turbelicus_observed_place_given : (m : Moment) (star : Star) (site : Site) (w : Weather)
    → (observed_out (observed_answer (observed_place m star site w)) ≡ observed_given_at m star site w)
    ↔ NoneGiven (observed_checks m star site w)
turbelicus_observed_place_given m star site w = rw (turbelicus_observed_place_checked m star site w)
    (answered_exactly (λ a. a.refused) observed_refused _ (λ _. refl) refl (observed_checks m star site w))
