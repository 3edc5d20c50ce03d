-- Demand 1 of places: `place::place` 1 to 4, 5, 6; `night::night_of` 1 to 4, 6.
use Rattle.std.specs.Prelude.{◌≡◌, refl, ◌↔◌, ◌≤◌, pos, Err}
use Rattle.std.proofs.Common.{ap, ◌∙◌, arith}
use Rattle.rules.specs.declared.Moment.{Moment}
use Rattle.rules.specs.declared.Star.{Star}
use Rattle.rules.specs.declared.Site.{Site}
use Rattle.rules.specs.declared.Refusal.{Refusal}
use Rattle.rules.specs.Checks.{first}
use Rattle.rules.specs.Refusals.{number, given, refused}
use Rattle.rules.specs.Answers.{place_numbers, placed_answer}
use Rattle.rules.specs.Place.{place_in, place}
use Rattle.laws.specs.Checks.{FirstGiven}
use Rattle.promises.specs.Demand1.Checks.{place_checks}
use Rattle.promises.specs.Demand1.InOrder.{number_to, first_map, refused_exactly}
use Rattle.promises.specs.Demand1.Places.{ready_night, place_checked, six_numbers}

pub place_refused_lem : (m : Moment) (star : Star) (site : Site) (r : Refusal)
    → (place m star site ≡ Err r) ↔ FirstGiven (place_checks m star site) r
unfolding placed_answer given refused
place_refused_lem m star site r = rw (place_checked m star site)
    (refused_exactly (λ a. pos (placed_answer a).number) Err _ (λ _. refl) refl (place_checks m star site) r)

-- a place never answers 7, 8, 12 or 13: its numbers are 1 to 6
pub place_number : (m : Moment) (star : Star) (site : Site) (r : Refusal) → place m star site ≡ Err r
    → number r ≤ 6
unfolding number
place_number m star site r e = number_to 6 (place_checks m star site)
    (omega arith, (omega arith, (omega arith, (omega arith, (omega arith, (omega arith, tt)))))) r
    ((place_refused_lem m star site r).0 e)

pub place_answer : (m : Moment) (star : Star) (site : Site)
    → placed_answer (place m star site)
    ≡ first (place_checks m star site) (λ r. refused r 6) (given (six_numbers (place_in (ready_night m site) star)))
unfolding placed_answer place_numbers
place_answer m star site = ap placed_answer (place_checked m star site)
    ∙ first_map placed_answer (place_checks m star site) Err _
