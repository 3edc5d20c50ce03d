-- Demand 1 of the night list, `night_list::night_list`: 1 to 4, 6, 11, and the entries as they were where one of these
-- is given; then 5 for each entry, which marks that entry alone.
use Rattle.std.specs.Prelude.{◌≡◌, refl, ◌↔◌, Bool, true, false, cond, List, map, Ok, Err}
use Rattle.std.proofs.Common.{sym, ap, ◌∙◌, arith}
use Rattle.rules.specs.declared.Moment.{Moment}
use Rattle.rules.specs.declared.Site.{Site}
use Rattle.rules.specs.declared.Night.{Night}
use Rattle.rules.specs.declared.Entry.{Entry}
use Rattle.rules.specs.Checks.{first}
use Rattle.rules.specs.Stars.{star_refused}
use Rattle.rules.specs.Place.{place_in}
use Rattle.rules.specs.ListReading.{noughts}
use Rattle.rules.specs.NightList.{mark_of, angles_of, entry_of, worked, marked, listed_in, night_list, worked_in}
use Rattle.rules.specs.NightList.{entries_after_night}
use Rattle.laws.specs.Marks.{mark_below_2}
use Rattle.laws.specs.Ranges.{true_not_false}
use Rattle.promises.specs.Demand1.Checks.{night_checks, night_list_checks}
use Rattle.promises.specs.Demand1.InOrder.{first_map}
use Rattle.promises.specs.Demand1.Places.{ready_night, night_checked}

-- the entries, each one worked
abbrev pub worked_entries : Moment → Site → List Entry → List Entry
worked_entries m site entries = map (worked (ready_night m site)) entries

pub night_list_checked : (m : Moment) (site : Site) (entries : List Entry)
    → night_list m site entries
    ≡ first (night_list_checks m site entries) Err (Ok (marked (worked_entries m site entries)))
unfolding night_list listed_in first
night_list_checked m site entries =
    ap (λ p. listed_in p entries) (night_checked m site)
    ∙ first_map (λ p. listed_in p entries) (night_checks m site) Err (Ok (ready_night m site))

pub night_list_content : (m : Moment) (site : Site) (entries : List Entry)
    → entries_after_night m site entries
    ≡ first (night_list_checks m site entries) (λ _. entries) (worked_entries m site entries)
unfolding entries_after_night worked_in first
night_list_content m site entries =
    ap (λ p. worked_in p entries) (night_checked m site)
    ∙ first_map (λ p. worked_in p entries) (night_checks m site) Err (Ok (ready_night m site))

-- ---- 5, for each entry

-- its star kept, mark 5 and four noughts
abbrev pub refused_entry : Entry → Entry
refused_entry e = record { star = e.star; mark = 5; angles = noughts }

-- its star kept, mark 0 or 1 and four angles, with nought in one that there is not
abbrev pub placed_entry : Night → Entry → Entry
placed_entry n e =
    let p = place_in n e.star in
    record { star = e.star; mark = mark_of p.ra p.azimuth; angles = angles_of p }

apart : {A : Type 0} (n : Night) (e : Entry) → refused_entry e ≡ placed_entry n e → A
apart n e w =
    let p = place_in n e.star in
    absurd (omega (arith, ap (λ (a : Entry). a.mark) w, mark_below_2 p.ra p.azimuth))

pub entry_refused : (n : Night) (e : Entry) → (worked n e ≡ refused_entry e) ↔ (star_refused e.star ≡ true)
unfolding worked entry_of
entry_refused n e = by (star_refused e.star) refl
  where
    by : (b : Bool) → star_refused e.star ≡ b
        → (cond b (refused_entry e) (placed_entry n e) ≡ refused_entry e) ↔ (star_refused e.star ≡ true)
    by true g = (λ _. g, λ _. refl)
    by false g = (λ w. apart n e (sym w), λ h. true_not_false (sym h ∙ g))

pub entry_placed : (n : Night) (e : Entry) → (worked n e ≡ placed_entry n e) ↔ (star_refused e.star ≡ false)
unfolding worked entry_of
entry_placed n e = by (star_refused e.star) refl
  where
    by : (b : Bool) → star_refused e.star ≡ b
        → (cond b (refused_entry e) (placed_entry n e) ≡ placed_entry n e) ↔ (star_refused e.star ≡ false)
    by true g = (λ w. apart n e w, λ h. true_not_false (sym g ∙ h))
    by false g = (λ _. g, λ _. refl)
