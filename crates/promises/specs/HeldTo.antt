-- docs/RULES.md, "What an answer is held to": answers that would be too cheap, and a case that each of them breaks.
-- That no second answer fits is `OnlyOne`.
use Rattle.std.specs.Prelude.{◌≡◌, refl, false, List, [], ◌∷◌, map, ℕ, ℤ, pos, nat_abs, Result, Ok, Err}
use Rattle.std.proofs.Common.{sym, ap, ◌∙◌, arith}
use Rattle.rules.specs.declared.Direction.{Direction}
use Rattle.rules.specs.declared.Star.{Star}
use Rattle.rules.specs.declared.Entry.{Entry}
use Rattle.rules.specs.Answers.{has_angle, or_nought}
use Rattle.rules.specs.Units.{quarter, unit, +◌, −◌, same, between, within}
use Rattle.rules.specs.Rounding.{rnd_size, rnd, modulo}
use Rattle.rules.specs.Length.{root_from, root, square, pair_squares, squares, part_to, pair_to_length, to_length}
use Rattle.rules.specs.Length.{length_refused, brought_to_length}
use Rattle.rules.specs.Circle.{radian_parts, square_parts, stage, stages, raw_sine, raw_cosine, pair_of_parts, pair_to_half}
use Rattle.rules.specs.Circle.{exchanged_pair, pair_to_quarter, in_quarter, folded, pair}
use Rattle.rules.specs.Turning.{turn3, exchanged, turn1, turn2, turn_about, direction_refused, turn_refused, turned}
use Rattle.rules.specs.Chain.{Turn, turned_by}
use Rattle.rules.specs.Stars.{star_refused}
use Rattle.rules.specs.Place.{place}
use Rattle.rules.specs.ListReading.{noughts}
use Rattle.rules.specs.NightList.{mark_of, entry_of, worked, filled, marked, list_refused, listed_in, night_list, worked_in}
use Rattle.rules.specs.NightList.{entries_after_night}
use Rattle.laws.specs.SampleNight.{evening, here}
use Rattle.laws.proofs.SampleNight.{made_ready}
use Rattle.laws.specs.SamplePlace.{sirius, equinox, sirius_place, equinox_place}
use Rattle.laws.proofs.SamplePlace.{sirius_place_lem, sirius_stands}
use Rattle.laws.proofs.SamplePlace.{equinox_stands}
use Rattle.laws.specs.SampleNoAngle.{pole_star}
use Rattle.laws.proofs.SampleNoAngle.{pole_place_lem}
use Rattle.rules.specs.declared.Refusal.{Refusal}
use Rattle.rules.specs.declared.Place.{Place}

-- ---- "Refusing everything, or one fixed place for all stars, breaks demand 2"

-- two stars, each with its place
pub two_places : (place evening sirius here ≡ Ok sirius_place)
    × (place evening equinox here ≡ Ok equinox_place)
two_places = (sirius_stands, equinox_stands)

-- so no answer, be it a place or a refusal, is that of every star that is accepted
pub no_answer_for_all : (a : Result Place Refusal) → ((s : Star) → star_refused s ≡ false → place evening s here ≡ a)
    → ⊥
unfolding star_refused between within or_nought
no_answer_for_all a all =
    let same_place = sym sirius_stands ∙ all sirius refl ∙ sym (all equinox refl) ∙ equinox_stands in
    omega (arith, ap (λ p. nat_abs (ra_of p)) same_place)
  where
    ra_of : Result Place Refusal → ℤ
    ra_of (Ok p) = or_nought p.ra
    ra_of (Err r) = pos 0

-- ---- "Leaving the direction as it came .. Turning once and copying afterwards breaks the same definition"

abbrev quarter_turn : Turn
quarter_turn = record { axis = + 3; angle = pos quarter }

abbrev on_equator : ℤ → ℤ → Direction
on_equator x y = record { x = x; y = y; z = + 0 }

-- one turn leads elsewhere, and a second one further
pub quarter_turns :
    (turned_by (quarter_turn ∷ []) (Ok (on_equator (+ unit) (+ 0))) ≡ Ok (on_equator (+ 0) (+ unit)))
    × (turned_by (quarter_turn ∷ quarter_turn ∷ []) (Ok (on_equator (+ unit) (+ 0)))
    ≡ Ok (on_equator (− unit) (+ 0)))
unfolding same between within rnd rnd_size modulo root_from root square pair_squares squares part_to pair_to_length to_length
    length_refused brought_to_length radian_parts square_parts stage stages raw_sine raw_cosine pair_of_parts pair_to_half
    exchanged_pair pair_to_quarter in_quarter folded pair turn3 exchanged turn1 turn2 turn_about direction_refused
    turn_refused turned
quarter_turns = (refl, refl)

-- ---- "A night list that marks nothing, or gives an invented count, breaks the Lists section"

-- an entry that has a mark that no list gives
abbrev unworked : Star → Entry
unworked s = record { star = s; mark = 7; angles = noughts }

-- of a star that is accepted, of one whose right ascension is below nought, and of one that stands at the pole
abbrev three_entries : List Entry
three_entries = unworked sirius
    ∷ unworked (record { ra = − 1; declination = + 0; ra_motion = + 0; declination_motion = + 0 })
    ∷ unworked pole_star
    ∷ []

abbrev marks : List Entry → List ℕ
marks es = map (λ (e : Entry). e.mark) es

pub two_of_three : (night_list evening here three_entries ≡ Ok 2)
    × (marks (entries_after_night evening here three_entries) ≡ 0 ∷ 5 ∷ 1 ∷ [])
unfolding night_list listed_in marked filled worked entry_of mark_of has_angle list_refused worked_in entries_after_night
    star_refused between within
two_of_three = (rw (made_ready, sirius_place_lem, pole_place_lem), rw (made_ready, sirius_place_lem, pole_place_lem))
