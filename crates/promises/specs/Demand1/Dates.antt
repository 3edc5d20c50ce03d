-- Demand 1 of dates and instants: `calendar::day_of` 1, 2; `calendar::date_of` 1; `instants::instants` 1, 2, 3, 4.
use Rattle.std.specs.Prelude.{◌≡◌, refl, ◌↔◌, [], ◌∷◌, ℤ, pos, Ok, Err}
use Rattle.std.proofs.Common.{ap, ◌∙◌}
use Rattle.rules.specs.declared.Date.{Date}
use Rattle.rules.specs.declared.Moment.{Moment}
use Rattle.rules.specs.declared.Refusal.{Refusal}
use Rattle.rules.specs.declared.Instants.{Instants}
use Rattle.rules.specs.Checks.{first}
use Rattle.rules.specs.Refusals.{given, refused}
use Rattle.rules.specs.Answers.{numbered_answer, dated_answer, instants_answer}
use Rattle.rules.specs.Calendar.{day_number, date_of_number, day_of, date_of}
use Rattle.rules.specs.Dates.{ut_of, tt_of, instants}
use Rattle.laws.specs.Checks.{FirstGiven}
use Rattle.promises.specs.Demand1.Checks.{day_checks, number_checks, date_checks}
use Rattle.promises.specs.Demand1.InOrder.{first_map, refused_exactly}
use Rattle.rules.specs.Dates.{ut_and_tt}

-- ---- the day number of a date

pub day_checked : (d : Date)
    → day_of d ≡ first (day_checks d) Err (Ok (day_number d))
unfolding day_of first
day_checked d = refl

pub day_refused_lem : (d : Date) (r : Refusal)
    → (day_of d ≡ Err r) ↔ FirstGiven (day_checks d) r
unfolding numbered_answer given refused
day_refused_lem d r = rw (day_checked d)
    (refused_exactly (λ a. pos (numbered_answer a).number) Err _ (λ _. refl) refl (day_checks d) r)

pub day_answer : (d : Date)
    → numbered_answer (day_of d) ≡ first (day_checks d) (λ r. refused r 1) (given (day_number d ∷ []))
unfolding numbered_answer
day_answer d = ap numbered_answer (day_checked d) ∙ first_map numbered_answer (day_checks d) Err _

-- ---- the date of a day number

pub date_checked : (n : ℤ)
    → date_of n ≡ first (number_checks n) Err (Ok (date_of_number n))
unfolding date_of first
date_checked n = refl

pub date_refused : (n : ℤ) (r : Refusal)
    → (date_of n ≡ Err r) ↔ FirstGiven (number_checks n) r
unfolding dated_answer given refused
date_refused n r = rw (date_checked n)
    (refused_exactly (λ a. pos (dated_answer a).number) Err _ (λ _. refl) refl (number_checks n) r)

pub date_answer : (n : ℤ)
    → dated_answer (date_of n)
    ≡ first (number_checks n) (λ r. refused r 3)
    (given ((date_of_number n).year ∷ (date_of_number n).month ∷ (date_of_number n).day ∷ []))
unfolding dated_answer
date_answer n = ap dated_answer (date_checked n) ∙ first_map dated_answer (number_checks n) Err _

-- ---- UT and TT of a moment

pub instants_checked : (m : Moment)
    → instants m ≡ first (date_checks m) Err (Ok (ut_and_tt (ut_of m) (tt_of m)))
unfolding instants first
instants_checked m = refl

pub instants_refused : (m : Moment) (r : Refusal)
    → (instants m ≡ Err r) ↔ FirstGiven (date_checks m) r
unfolding instants_answer given refused
instants_refused m r = rw (instants_checked m)
    (refused_exactly (λ a. pos (instants_answer a).number) Err _ (λ _. refl) refl (date_checks m) r)

pub instants_answer_lem : (m : Moment)
    → instants_answer (instants m)
    ≡ first (date_checks m) (λ r. refused r 2) (given ((ut_of m).0 ∷ (tt_of m).0 ∷ []))
unfolding instants_answer
instants_answer_lem m = ap instants_answer (instants_checked m) ∙ first_map instants_answer (date_checks m) Err _
