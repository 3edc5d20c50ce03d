-- What the tests of a list file say, refusals 9 and 10, and back.
use Rattle.std.specs.Prelude.{◌≡◌, refl, Bool, true, false, not, ◌&&◌, List, [], ◌∷◌, ℕ, ◌<◌, ◌≤◌, length, get_or, eqb}
use Rattle.std.proofs.Common.{◌∙◌, ap, arith, eqb-true, eq-eqb, ne_eqb, leb-true, le-leb}
use Rattle.std.proofs.lemmas.Bool.{false≢true, lt-leb, not-false}
use Rattle.rules.specs.Bytes.{part, unsigned_at, same_bytes}
use Rattle.rules.specs.ListFile.{head_length, most_records, mark, count_in, file_length}
use Rattle.rules.specs.ListReading.{mark_refused, count_refused}
use Rattle.laws.specs.FileParts.{part_cons, part_none}

-- ---- what each test says

pub and_true : (a b : Bool) → a && b ≡ true → (a ≡ true) × (b ≡ true)
and_true true b e = (refl, e)
and_true false b e = absurd (false≢true e)

pub same_bytes_lem : (xs ys : List ℕ) → same_bytes xs ys ≡ true → xs ≡ ys
unfolding same_bytes
same_bytes_lem [] [] e = refl
same_bytes_lem [] (y ∷ ys) e = absurd (false≢true e)
same_bytes_lem (x ∷ xs) [] e = absurd (false≢true e)
same_bytes_lem (x ∷ xs) (y ∷ ys) e =
    let k = and_true (eqb x y) (same_bytes xs ys) e in
    (λ i. eqb-true x y k.0 i ∷ same_bytes_lem xs ys k.1 i)

-- a file that is not refused 9
pub record Headed (file : List ℕ) : Type 0 where
  pub long : head_length ≤ length file
  pub marked : part 0 3 file ≡ mark
  pub version : unsigned_at 3 2 file ≡ 1

pub headed : (file : List ℕ) → mark_refused file ≡ false → Headed file
unfolding mark_refused
headed file e =
    let k = and_true _ _ (not-false _ e) in
    let l = and_true _ _ k.0 in
    record {
      long = leb-true head_length (length file) l.0;
      marked = same_bytes_lem (part 0 3 file) mark l.1;
      version = eqb-true (unsigned_at 3 2 file) 1 k.1;
    }

pub mark_short : (file : List ℕ) → length file < head_length → mark_refused file ≡ true
unfolding mark_refused
mark_short file l = let short = lt-leb head_length (length file) l in rw short

-- the tests of a file of seven bytes and more, one by one
pub mark_long : (file : List ℕ) → head_length ≤ length file
    → mark_refused file ≡ not (eqb (get_or file 0 0) 83 && (eqb (get_or file 1 0) 76 && (eqb (get_or file 2 0) 84 && true))
    && eqb (unsigned_at 3 2 file) 1)
unfolding mark_refused same_bytes
mark_long file l =
    let long = le-leb head_length (length file) l in
    let three : part 0 3 file ≡ get_or file 0 0 ∷ get_or file 1 0 ∷ get_or file 2 0 ∷ [] =
    part_cons 0 2 file (omega arith) ∙ ap (λ r. get_or file 0 0 ∷ r) (part_cons 1 1 file (omega arith))
    ∙ ap (λ r. get_or file 0 0 ∷ get_or file 1 0 ∷ r)
    (part_cons 2 0 file (omega arith) ∙ ap (λ r. get_or file 2 0 ∷ r) (part_none 3 file)) in
    rw (long, three)

-- a file that is not refused 10
pub record Counted (file : List ℕ) : Type 0 where
  pub few : count_in file ≤ most_records
  pub size : length file ≡ file_length (count_in file)

pub counted : (file : List ℕ) → count_refused file ≡ false → Counted file
unfolding count_refused
counted file e =
    let k = and_true _ _ (not-false _ e) in
    record { few = leb-true (count_in file) most_records k.0; size = eqb-true (length file) (file_length (count_in file)) k.1 }

pub count_many : (file : List ℕ) → most_records < count_in file → count_refused file ≡ true
unfolding count_refused
count_many file l = let many = lt-leb (count_in file) most_records l in rw many

pub count_fails : (file : List ℕ) → count_in file ≤ most_records → (length file ≡ file_length (count_in file) → ⊥)
    → count_refused file ≡ true
unfolding count_refused
count_fails file l h =
    let few = le-leb (count_in file) most_records l in
    let other = ne_eqb (length file) (file_length (count_in file)) h in
    rw (few, other)

pub count_passes : (file : List ℕ) → count_in file ≤ most_records → length file ≡ file_length (count_in file)
    → count_refused file ≡ false
unfolding count_refused
count_passes file l h =
    let few = le-leb (count_in file) most_records l in
    let same = eq-eqb (length file) (file_length (count_in file)) h in
    rw (few, same)
