-- Demand 1 of places: `place::place` 1 to 4, 5, 6; `night::night_of` 1 to 4, 6.
use Rattle.std.specs.Prelude.{◌≡◌, refl, ◌↔◌, List, [], ◌∷◌, ◌++◌, ℤ, pos, Ok, Err}
use Rattle.std.proofs.Common.{ap, ◌∙◌}
use Rattle.rules.specs.declared.Moment.{Moment}
use Rattle.rules.specs.declared.Star.{Star}
use Rattle.rules.specs.declared.Site.{Site}
use Rattle.rules.specs.declared.Night.{Night}
use Rattle.rules.specs.declared.Place.{Place}
use Rattle.rules.specs.declared.Refusal.{Refusal}
use Rattle.rules.specs.declared.Instants.{Instants}
use Rattle.rules.specs.Checks.{first}
use Rattle.rules.specs.Refusals.{given, refused}
use Rattle.rules.specs.Answers.{or_nought, flag, prepared_answer, parts}
use Rattle.rules.specs.Dates.{ut_of, tt_of}
use Rattle.rules.specs.Night.{night, night_at, night_of}
use Rattle.rules.specs.Place.{place_in, place_at, place}
use Rattle.laws.specs.Checks.{FirstGiven}
use Rattle.promises.specs.Demand1.Checks.{date_checks, place_checks, night_checks}
use Rattle.promises.specs.Demand1.InOrder.{first_map, refused_exactly}
use Rattle.promises.specs.Demand1.Dates.{instants_checked}
use Rattle.rules.specs.Dates.{ut_and_tt}

-- what a moment and a site make ready, where none of their checks is given
abbrev pub ready_night : Moment → Site → Night
ready_night m site = night (ut_of m) (tt_of m) site

-- ---- the place of a star

pub place_checked : (m : Moment) (star : Star) (site : Site)
    → place m star site
    ≡ first (place_checks m star site) Err (Ok (place_in (ready_night m site) star))
unfolding place place_at first
place_checked m star site =
    ap (λ i. place_at i star site) (instants_checked m)
    ∙ first_map (λ i. place_at i star site) (date_checks m) Err (Ok (ut_and_tt (ut_of m) (tt_of m)))

-- right ascension with its flag, declination, azimuth with its flag, altitude
abbrev pub six_numbers : Place → List ℤ
six_numbers p =
    flag p.ra ∷ or_nought p.ra ∷ p.declination
    ∷ flag p.azimuth ∷ or_nought p.azimuth ∷ p.altitude ∷ []

-- ---- a moment and a site made ready

pub night_checked : (m : Moment) (site : Site)
    → night_of m site ≡ first (night_checks m site) Err (Ok (ready_night m site))
unfolding night_of night_at first
night_checked m site =
    ap (λ i. night_at i site) (instants_checked m)
    ∙ first_map (λ i. night_at i site) (date_checks m) Err (Ok (ut_and_tt (ut_of m) (tt_of m)))

pub night_refused : (m : Moment) (site : Site) (r : Refusal)
    → (night_of m site ≡ Err r) ↔ FirstGiven (night_checks m site) r
unfolding prepared_answer given refused
night_refused m site r = rw (night_checked m site)
    (refused_exactly (λ a. pos (prepared_answer a).number) Err _ (λ _. refl) refl (night_checks m site) r)

-- TT, then what each of the steps 3 to 6 takes
abbrev pub twenty_numbers : Night → List ℤ
twenty_numbers n = n.tt.0 ∷ parts n.zeta ++ parts n.minus_theta ++ parts n.z
    ++ (n.aberration.x ∷ n.aberration.y ∷ n.aberration.z ∷ [])
    ++ parts n.minus_epsilon ++ parts n.delta_psi ++ parts n.true_epsilon ++ parts n.minus_sidereal ++ parts n.latitude_less_quarter

pub night_answer : (m : Moment) (site : Site)
    → prepared_answer (night_of m site)
    ≡ first (night_checks m site) (λ r. refused r 20) (given (twenty_numbers (ready_night m site)))
unfolding prepared_answer
night_answer m site = ap prepared_answer (night_checked m site)
    ∙ first_map prepared_answer (night_checks m site) Err _
