-- Demand 1 of the night list, `night_list::night_list`: 1 to 4, 6, 11, and the entries as they were where one of these
-- is given; then 5 for each entry, which marks that entry alone.
use Rattle.std.specs.Prelude.{◌≡◌, refl, ◌↔◌, List, [], ◌∷◌, pos, Err}
use Rattle.std.proofs.Common.{ap, ◌∙◌}
use Rattle.rules.specs.declared.Moment.{Moment}
use Rattle.rules.specs.declared.Site.{Site}
use Rattle.rules.specs.declared.Entry.{Entry}
use Rattle.rules.specs.declared.Refusal.{Refusal}
use Rattle.rules.specs.Checks.{first}
use Rattle.rules.specs.Refusals.{given, refused}
use Rattle.rules.specs.Answers.{listed_answer}
use Rattle.rules.specs.NightList.{marked, night_list}
use Rattle.rules.specs.NightList.{entries_after_night}
use Rattle.laws.specs.Checks.{FirstGiven}
use Rattle.promises.specs.Demand1.Checks.{night_list_checks}
use Rattle.promises.specs.Demand1.InOrder.{first_map, first_kept, refused_exactly}
use Rattle.promises.specs.Demand1.NightList.{worked_entries, night_list_checked, night_list_content}

pub night_list_refused : (m : Moment) (site : Site) (entries : List Entry) (r : Refusal)
    → (night_list m site entries ≡ Err r) ↔ FirstGiven (night_list_checks m site entries) r
unfolding listed_answer given refused
night_list_refused m site entries r = rw (night_list_checked m site entries)
    (refused_exactly (λ a. pos (listed_answer a).number) Err _ (λ _. refl) refl
    (night_list_checks m site entries) r)

pub night_list_answer : (m : Moment) (site : Site) (entries : List Entry)
    → listed_answer (night_list m site entries)
    ≡ first (night_list_checks m site entries) (λ r. refused r 1)
    (given (pos (marked (worked_entries m site entries)) ∷ []))
unfolding listed_answer
night_list_answer m site entries = ap listed_answer (night_list_checked m site entries)
    ∙ first_map listed_answer (night_list_checks m site entries) Err _

pub night_list_kept : (m : Moment) (site : Site) (entries : List Entry) (r : Refusal)
    → FirstGiven (night_list_checks m site entries) r → entries_after_night m site entries ≡ entries
night_list_kept m site entries r f =
    night_list_content m site entries ∙ first_kept (night_list_checks m site entries) entries _ r f
