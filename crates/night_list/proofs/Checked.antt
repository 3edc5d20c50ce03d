-- What the checks decide of a night list: its answer, and its entries afterwards.
use Rattle.std.proofs.Common.{◌≡◌, refl, ◌∙◌, ap, Bool, true, false, cond, List, ◌++◌, map, ℕ, ◌+◌, ◌<◌, length, get_or, take, drop, set, Result, Ok, Err}
use Rattle.std.proofs.lemmas.List.{get_or_default}
use Rattle.std.proofs.lemmas.List.Edits.{map_over_more}
use lib.Dec.{ltb}
use native.Mathlib.Omega.{arith}
use Rattle.rules.specs.declared.Night.{Night}
use Rattle.rules.specs.declared.Entry.{Entry}
use Rattle.rules.specs.declared.Refusal.{Refusal}
use Rattle.rules.specs.ListFile.{most_records}
use Rattle.rules.specs.ListReading.{fresh_entry}
use Rattle.rules.specs.NightList.{worked, marked, list_refused, listed_in, worked_in}
use Rattle.night_list_checks.specs.Checks.{night_for}

-- of an entry its star alone is looked at
worked_fresh : (n : Night) (e : Entry) → worked n (fresh_entry e.star) ≡ worked n e
unfolding worked fresh_entry
worked_fresh n e = refl

-- a turn of the loop
pub worked_turn : (n : Night) (xs cur : List Entry) (i : ℕ) (d y : Entry) → i < length xs → length cur ≡ length xs
    → cur ≡ map (worked n) (take i xs) ++ drop i xs → y ≡ worked n (fresh_entry (get_or cur i d).star)
    → set cur i y ≡ map (worked n) (take (i + 1) xs) ++ drop (i + 1) xs
worked_turn n xs cur i d y l same e f =
    let x = get_or cur i d in
    ap (set cur i) (f ∙ worked_fresh n x)
    ∙ map_over_more (worked n) xs cur i x l e (get_or_default cur i d x (omega (arith, same, l)))

pub record Accepted (night : Result Night Refusal) (xs : List Entry) (n : Night) : Type 0 where
  pub night_is : night ≡ Ok n
  pub answer : listed_in night xs ≡ Ok (marked (map (worked n) xs))
  pub after : worked_in night xs ≡ map (worked n) xs

few : (m n : Night) (xs : List Entry) (t : Bool) → ltb most_records (length xs) ≡ t
    → cond t (Err Refusal.Room) (Ok m) ≡ Ok n → Accepted (Ok m) xs n
unfolding listed_in worked_in list_refused
few m n xs true e f = let z : ◌≡◌ {A = ℕ} 0 1 = cc in absurd (omega arith)
few m n xs false e f =
    let same : m ≡ n = cc in
    record { night_is = f; answer = rw e (rw same); after = rw e (rw same) }

pub accepted : (night : Result Night Refusal) (xs : List Entry) (n : Night) → night_for night (length xs) ≡ Ok n
    → Accepted night xs n
unfolding night_for
accepted (Err r) xs n e = let z : ◌≡◌ {A = ℕ} 0 1 = cc in absurd (omega arith)
accepted (Ok m) xs n e = few m n xs (ltb most_records (length xs)) refl e

pub record Refused (night : Result Night Refusal) (xs : List Entry) (r : Refusal) : Type 0 where
  pub answer : listed_in night xs ≡ Err r
  pub after : worked_in night xs ≡ xs

many : (m : Night) (xs : List Entry) (r : Refusal) (t : Bool) → ltb most_records (length xs) ≡ t
    → cond t (Err Refusal.Room) (Ok m) ≡ Err r → Refused (Ok m) xs r
unfolding listed_in worked_in list_refused
many m xs r true e f = let same : Refusal.Room ≡ r = cc in record { answer = rw e (rw same); after = rw e }
many m xs r false e f = let z : ◌≡◌ {A = ℕ} 0 1 = cc in absurd (omega arith)

pub refused : (night : Result Night Refusal) (xs : List Entry) (r : Refusal) → night_for night (length xs) ≡ Err r
    → Refused night xs r
unfolding night_for listed_in worked_in
refused (Err s) xs r e = let same : s ≡ r = cc in record { answer = ap Err same; after = refl }
refused (Ok m) xs r e = many m xs r (ltb most_records (length xs)) refl e
