-- What is known of a file's entries.
use Rattle.std.specs.Prelude.{◌≡◌, refl, Bool, true, false, cond, List, ℕ, ◌≤◌, ltb, Result, Ok, Err, Option, Some, None}
use Rattle.std.proofs.Common.{ap, arith, ltb-true}
use Rattle.rules.specs.declared.Star.{Star}
use Rattle.rules.specs.declared.Night.{Night}
use Rattle.rules.specs.declared.Refusal.{Refusal}
use Rattle.rules.specs.Night.{night_of}
use Rattle.rules.specs.ListReading.{list_count, star_at, list_star}
use Rattle.rules.specs.ListFile.{most_records}
use Rattle.laws.specs.Ranges.{true_not_false}
use Rattle.laws.specs.ListFile.{accepted_few}
use Rattle.line_asked.specs.declared.Asked.{Asked}
use Rattle.line_asked.specs.Asking.{asked_of}
use Rattle.line_entries.specs.declared.air.Air.{Air}
use Rattle.line_places.specs.Air.{air_accepted}
use Rattle.line_places.specs.Answers.{Begun, begun_in, begun_for, begun_of, in_air, begun}

found : (b : Bool) (t s : Star) → cond b (Ok t) (Err Refusal.Room) ≡ Ok s
    → b ≡ true
found true t s e = refl
found false t s e = let z : true ≡ false = cc in true_not_false z

-- a star that is found has an index of at most 64
pub star_index_le : (file : List ℕ) (index : ℕ) (s : Star) → list_star file index ≡ Ok s → index ≤ most_records
unfolding list_star star_at
star_index_le file index s e = go (list_count file) refl e
  where
    go : (l : Result ℕ Refusal) → list_count file ≡ l → star_at l file index ≡ Ok s → index ≤ most_records
    go (Err r) f g = let z : true ≡ false = cc in true_not_false z
    go (Ok n) f g =
        omega (arith, accepted_few file n f, ltb-true index n (found (ltb index n) _ s g))

-- ---- how many entries there are

begun_in_counted : (p : Result Night Refusal) (c count : ℕ) (n : Night) → begun_in c p ≡ Begun.For count n → c ≡ count
unfolding begun_in
begun_in_counted (Err r) c count n e = let z : true ≡ false = cc in true_not_false z
begun_in_counted (Ok k) c count n e = cc

begun_counted : (l : Result ℕ Refusal) (asked : Option Asked) (count : ℕ) (n : Night) → begun_of l asked ≡ Begun.For count n
    → l ≡ Ok count
unfolding begun_of begun_for
begun_counted (Err r) asked count n e = let z : true ≡ false = cc in true_not_false z
begun_counted (Ok c) None count n e = let z : true ≡ false = cc in true_not_false z
begun_counted (Ok c) (Some asked) count n e =
    ap Ok (begun_in_counted (night_of asked.moment asked.site) c count n e)

-- ---- and in an air that is accepted

in_air_accepted : (air : Option Air) (b : Begun) (count : ℕ) (n : Night) → in_air air b ≡ Begun.For count n
    → (b ≡ Begun.For count n) × (air_accepted air ≡ true)
unfolding in_air
in_air_accepted air (Begun.Refused r) count n e = let z : true ≡ false = cc in true_not_false z
in_air_accepted air Begun.Other count n e = let z : true ≡ false = cc in true_not_false z
in_air_accepted air (Begun.For c k) count n e = go (air_accepted air) e
  where
    go : (t : Bool) → cond t (Begun.For c k) (Begun.Refused Refusal.Reading) ≡ Begun.For count n
        → (Begun.For c k ≡ Begun.For count n) × (t ≡ true)
    go true f = (f, refl)
    go false f = let z : true ≡ false = cc in true_not_false z

pub begun_is : (air : Option Air) (count : ℕ) (n : Night) (file line : List ℕ) → begun air file line ≡ Begun.For count n
    → (count ≤ most_records) × (air_accepted air ≡ true)
unfolding begun
begun_is air count n file line e =
    let k = in_air_accepted air (begun_of (list_count file) (asked_of line)) count n e in
    (accepted_few file count (begun_counted (list_count file) (asked_of line) count n k.0), k.1)
