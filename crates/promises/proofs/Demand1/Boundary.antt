-- Demand 1 of what C calls: each function of `module` gives a struct whose first number is the refusal's, with noughts
-- after it, exactly when that refusal is the first of its checks that is given; else it is 0, with the rule's values.
-- `turbelicus_reading` refuses nothing and has no such number.
use Rattle.std.specs.Prelude.{◌≡◌, refl, ◌↔◌, List, ℕ}
use Rattle.std.proofs.Common.{ap, ◌∙◌}
use Rattle.rules.specs.declared.Moment.{Moment}
use Rattle.rules.specs.declared.Star.{Star}
use Rattle.rules.specs.declared.Site.{Site}
use Rattle.rules.specs.declared.Refusal.{Refusal}
use Rattle.rules.specs.Checks.{first}
use Rattle.rules.specs.Refusals.{given, refused}
use Rattle.rules.specs.Answers.{placed_answer, listed_answer}
use Rattle.rules.specs.Place.{place_in, place}
use Rattle.rules.specs.ListFile.{count_in}
use Rattle.rules.specs.ListReading.{list_count}
use Rattle.laws.specs.Checks.{FirstGiven, NoneGiven}
use Rattle.answers.specs.Answers.{placed_out, counted_out}
use Rattle.promises.specs.Demand1.Checks.{place_checks, file_checks}
use Rattle.promises.specs.Demand1.InOrder.{first_map, refused_exactly, answered_exactly}
use Rattle.promises.specs.Demand1.Places.{ready_night}
use Rattle.promises.proofs.Demand1.Places.{place_answer}
use Rattle.promises.specs.Demand1.Lists.{count_answer}
use Rattle.promises.specs.Demand1.Boundary.{place_refused, place_given, count_refused, count_given}

turbelicus_place_checked : (m : Moment) (star : Star) (site : Site)
    → placed_out (placed_answer (place m star site))
    ≡ first (place_checks m star site) place_refused (place_given (place_in (ready_night m site) star))
unfolding placed_out given refused
turbelicus_place_checked m star site = ap placed_out (place_answer m star site)
    ∙ first_map placed_out (place_checks m star site) (λ r. refused r 6) _

pub turbelicus_place_refused : (m : Moment) (star : Star) (site : Site) (r : Refusal)
    → (placed_out (placed_answer (place m star site)) ≡ place_refused r) ↔ FirstGiven (place_checks m star site) r
turbelicus_place_refused m star site r = rw (turbelicus_place_checked m star site)
    (refused_exactly (λ a. a.refused) place_refused _ (λ _. refl) refl (place_checks m star site) r)

pub turbelicus_place_given : (m : Moment) (star : Star) (site : Site)
    → (placed_out (placed_answer (place m star site)) ≡ place_given (place_in (ready_night m site) star))
    ↔ NoneGiven (place_checks m star site)
turbelicus_place_given m star site = rw (turbelicus_place_checked m star site)
    (answered_exactly (λ a. a.refused) place_refused _ (λ _. refl) refl (place_checks m star site))

turbelicus_list_count_checked : (file : List ℕ)
    → counted_out (listed_answer (list_count file)) ≡ first (file_checks file) count_refused (count_given (count_in file))
unfolding counted_out given refused
turbelicus_list_count_checked file = ap counted_out (count_answer file)
    ∙ first_map counted_out (file_checks file) (λ r. refused r 1) _

pub turbelicus_list_count_refused : (file : List ℕ) (r : Refusal)
    → (counted_out (listed_answer (list_count file)) ≡ count_refused r) ↔ FirstGiven (file_checks file) r
turbelicus_list_count_refused file r = rw (turbelicus_list_count_checked file)
    (refused_exactly (λ a. a.refused) count_refused _ (λ _. refl) refl (file_checks file) r)

pub turbelicus_list_count_given : (file : List ℕ)
    → (counted_out (listed_answer (list_count file)) ≡ count_given (count_in file)) ↔ NoneGiven (file_checks file)
turbelicus_list_count_given file = rw (turbelicus_list_count_checked file)
    (answered_exactly (λ a. a.refused) count_refused _ (λ _. refl) refl (file_checks file))
