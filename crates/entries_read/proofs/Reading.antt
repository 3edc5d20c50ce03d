-- What the loop of `read_list` needs: how many records it has, and what each turn and all of them leave.
use mathlib.Core.Path.{◌≡◌, sym, ◌∙◌, ap}
use mathlib.Core.List.{List, [], ◌∷◌, ◌++◌, map}
use Prim.Native.Nat.{ℕ, ◌+◌, ◌-◌, ◌/◌, ◌<◌, ◌≤◌}
use native.Mathlib.Omega.{arith}
use lib.ListN.{length, take, drop, get_or, length-map}
use Rattle.std.proofs.Common.{set, length-drop}
use Rattle.std.proofs.lemmas.List.{map-append, length-take-le, take_rest}
use Rattle.std.proofs.lemmas.Simd.{map-map}
use Rattle.std.proofs.lemmas.Grind.{take_at_read}
use Rattle.std.specs.Simd.{first_chunks}
use Rattle.lent.specs.Lists.{snoc_length, set_next}
use Rattle.rules.specs.declared.Entry.{Entry}
use Rattle.rules.specs.ListFile.{head_length, record_length, file_length, star_in, stars_in, stars, record_at}
use Rattle.rules.specs.ListReading.{list_count, read_into, list_read, fresh_entry, leaving, entries_after_read}
use Rattle.laws.specs.Records.{stars_of_chunks}
use Rattle.laws.specs.FileTests.{counted}
use Rattle.laws.specs.ListFile.{read_accepted}
use Rattle.std.specs.Prelude.{Ok}

-- records as entries
abbrev pub read_entries : List (List ℕ) → List Entry
read_entries records = map (λ bytes. fresh_entry (star_in bytes)) records

-- what an answer that is a count says
module _ (file : List ℕ) (entries : List Entry) (count : ℕ) (answer : read_into (list_count file) (length entries) ≡ Ok count) where
  read_answer : list_read file entries ≡ Ok count
  unfolding list_read
  read_answer = answer

  -- no more entries than there are
  pub read_within : count ≤ length entries
  read_within = (read_accepted file entries count read_answer).1

  -- the file has its records, and no more
  pub read_long : length file ≡ record_at count
  unfolding file_length
  read_long =
      let ok = (read_accepted file entries count read_answer).0 in
      omega (arith, (counted file ok.not_10).size, ok.count_is)

  -- what follows the head
  abbrev rest : List ℕ
  rest = take (length file - head_length) (drop head_length file)

  pub read_count : length rest / record_length ≡ count
  read_count =
      omega (arith, length-take-le (length file - head_length) (drop head_length file) (omega (arith, length-drop head_length file)), read_long)

  -- what the loop leaves is what the rule says
  pub read_after : read_entries (first_chunks record_length (length rest / record_length) rest) ++ drop count entries
      ≡ entries_after_read file entries
  unfolding entries_after_read leaving stars
  read_after =
      let is = (read_accepted file entries count read_answer).0.count_is in
      rw read_answer (
      ap (λ r. r ++ drop count entries)
      ((λ i. read_entries (first_chunks record_length (read_count i) (take_rest file head_length i)))
      ∙ sym (map-map fresh_entry star_in (first_chunks record_length count (drop head_length file)))
      ∙ ap (map fresh_entry) (stars_of_chunks count (drop head_length file)))
      ∙ ap (λ n. map fresh_entry (stars_in n (drop head_length file)) ++ drop n entries) is
      )

-- one record more is stored in the place of what stood there
pub read_stored : (records : List (List ℕ)) (k : ℕ) (entries : List Entry) → k < length records → k < length entries
    → set (read_entries (take k records) ++ drop k entries) k (fresh_entry (star_in (get_or records k [])))
    ≡ read_entries (take (k + 1) records) ++ drop (k + 1) entries
read_stored records k entries l h =
    let y = fresh_entry (star_in (get_or records k [])) in
    let ps = read_entries (take k records) in
    let n : length ps ≡ k = length-map (take k records) (λ bytes. fresh_entry (star_in bytes)) ∙ length-take-le k records (omega (arith, l)) in
    let more : ps ++ (y ∷ []) ≡ read_entries (take (k + 1) records) =
    sym (ap read_entries (take_at_read records k [] l).1 ∙ map-append (λ bytes. fresh_entry (star_in bytes)) (take k records) (get_or records k [] ∷ [])) in
    ap (λ m. set (ps ++ drop m entries) m y) (sym n)
    ∙ set_next entries ps y (omega (arith, n, h))
    ∙ ap (λ m. (ps ++ (y ∷ [])) ++ drop m entries) (sym (snoc_length ps y) ∙ ap (λ m. m + 1) n)
    ∙ ap (λ r. r ++ drop (k + 1) entries) more
