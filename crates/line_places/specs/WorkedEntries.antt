-- An entry by its index, of those that are read and of those that are worked.
use Rattle.std.specs.Prelude.{◌≡◌, refl, List, [], ◌∷◌, ◌++◌, map, ℕ, zero, suc, ◌*◌, ◌<◌, length, get_or, drop}
use Rattle.std.proofs.Common.{sym, ap, ◌∙◌, arith, lt_irrefl, drop-drop, get_or-take, take_at}
use Rattle.std.proofs.lemmas.List.{length-map, length-replicate}
use Rattle.rules.specs.declared.Entry.{Entry}
use Rattle.rules.specs.declared.Night.{Night}
use Rattle.rules.specs.ListFile.{head_length, record_length, most_records, count_in, file_length, star_in, stars_in, stars}
use Rattle.rules.specs.ListReading.{fresh_entry}
use Rattle.rules.specs.NightList.{worked}
use Rattle.laws.specs.Records.{stars_in_each, each_nth}
use Rattle.laws.specs.FileLength.{stars_length}
use Rattle.entries_listing.specs.Listing.{blank, blanks}

get_d_front : {X : Type 0} (xs ys : List X) (i : ℕ) (d : X) → i < length xs → get_or (xs ++ ys) i d ≡ get_or xs i d
get_d_front xs ys i d h =
    sym (get_or-take (length xs) (xs ++ ys) i d h) ∙ ap (λ zs. get_or zs i d) (take_at xs ys (length xs) refl)

get_d_map : {X Y : Type 0} (f : X → Y) (xs : List X) (i : ℕ) (d : X) (e : Y) → i < length xs
    → get_or (map f xs) i e ≡ f (get_or xs i d)
get_d_map f [] i d e h = absurd (lt_irrefl 0 (omega arith))
get_d_map f (x ∷ xs) zero d e h = refl
get_d_map f (x ∷ xs) (suc i) d e h = get_d_map f xs i d e (omega arith)

-- of those that are worked
pub get_d_worked : (n : Night) (es rest : List Entry) (i : ℕ) → i < length es
    → get_or (map (worked n) es ++ rest) i blank ≡ worked n (get_or es i blank)
get_d_worked n es rest i h =
    get_d_front (map (worked n) es) rest i blank (omega (arith, h, length-map es (worked n)))
    ∙ get_d_map (worked n) es i blank blank h

-- of those that are read
pub get_d_read : (file : List ℕ) (i : ℕ) → i < count_in file
    → get_or (map fresh_entry (stars file)) i blank ≡ fresh_entry (star_in (drop (file_length i) file))
unfolding stars file_length
get_d_read file i h =
    ap (λ ss. get_or (map fresh_entry ss) i blank) (stars_in_each (count_in file) (drop head_length file))
    ∙ each_nth star_in record_length fresh_entry (count_in file) i (drop head_length file) blank h
    ∙ ap (λ bytes. fresh_entry (star_in bytes)) (drop-drop (record_length * i) head_length file)

pub read_length : (file : List ℕ) → length (map fresh_entry (stars file)) ≡ count_in file
unfolding stars
read_length file =
    length-map (stars_in (count_in file) (drop head_length file)) fresh_entry
    ∙ stars_length (count_in file) (drop head_length file)

pub blanks_length : length blanks ≡ most_records
unfolding blanks
blanks_length = length-replicate 64 blank
