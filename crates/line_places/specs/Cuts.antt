-- What the program keeps of a file and of standard input decides as the whole would: bytes past the room of the longest
-- file that is accepted, bytes past a line that can be of the form, and bytes past the first LF do not matter.
use Rattle.std.specs.Prelude.{◌≡◌, refl, Bool, true, false, cond, List, [], ◌∷◌, ◌++◌, ℕ, zero, suc, ◌+◌, ◌≤◌, eqb, ltb, length, take, Option}
use Rattle.std.proofs.Common.{ap, arith, lit≤, length-take, take-take, le-leb, ltb-true, ltb-false}
use Rattle.rules.specs.Times.{newline}
use Rattle.rules.specs.Bytes.{part, unsigned_at}
use Rattle.rules.specs.ListFile.{head_length, most_records, count_in, file_length, record_at}
use Rattle.rules.specs.ListReading.{mark_refused, count_refused}
use Rattle.laws.specs.FileTests.{count_many, count_fails}
use Rattle.line_asked.specs.Asking.{length_before}
use Rattle.line_asked.specs.LongLines.{asked_cut}
use Rattle.line_entries.specs.declared.air.Air.{Air}
use Rattle.line_places.specs.Answers.{begun}
use Rattle.line_places.specs.Program.{first_line, places}

-- the room for a file: of 64 records, and a byte more
abbrev pub file_kept : ℕ
file_kept = record_at most_records + 1

-- and for a line: the longest of the form has 57 bytes
abbrev pub line_kept : ℕ
line_kept = 65

-- ---- standard input

first_line_cut : (k : ℕ) (input : List ℕ) → first_line (take k input) ≡ take k (first_line input)
unfolding first_line length_before
first_line_cut zero input = refl
first_line_cut (suc k) [] = refl
first_line_cut (suc k) (b ∷ bs) = go (eqb b newline) (first_line_cut k bs)
  where
    go : (t : Bool) → take (length_before newline (take k bs)) (take k bs) ≡ take k (take (length_before newline bs) bs)
        → take (cond t 0 (suc (length_before newline (take k bs)))) (b ∷ take k bs)
        ≡ take (suc k) (take (cond t 0 (suc (length_before newline bs))) (b ∷ bs))
    go true e = refl
    go false e = ap (λ rest. b ∷ rest) e

pub input_cut : (people : Bool) (air : Option Air) (file input : List ℕ)
    → places people air file (take line_kept input) ≡ places people air file input
unfolding places begun
input_cut people air file input = rw (first_line_cut line_kept input, asked_cut (first_line input) line_kept (lit≤ tt))

-- what follows the first LF
first_line_end : (before after : List ℕ) → first_line (before ++ newline ∷ after) ≡ first_line before
unfolding first_line length_before
first_line_end [] after = refl
first_line_end (b ∷ bs) after = go (eqb b newline) (first_line_end bs after)
  where
    go : (t : Bool) → first_line (bs ++ newline ∷ after) ≡ first_line bs
        → take (cond t 0 (suc (length_before newline (bs ++ newline ∷ after)))) (b ∷ bs ++ newline ∷ after)
        ≡ take (cond t 0 (suc (length_before newline bs))) (b ∷ bs)
    go true e = refl
    go false e = ap (λ rest. b ∷ rest) e

pub after_line : (people : Bool) (air : Option Air) (file before after : List ℕ)
    → places people air file (before ++ newline ∷ after) ≡ places people air file before
unfolding places
after_line people air file before after = rw (first_line_end before after)

-- ---- the file

part_cut : (from count k : ℕ) (file : List ℕ) → from + count ≤ k → part from count (take k file) ≡ part from count file
unfolding part
part_cut zero count k file h = take-take count k file (omega arith)
part_cut (suc from) count zero file h = absurd (omega arith)
part_cut (suc from) count (suc k) [] h = refl
part_cut (suc from) count (suc k) (b ∷ bs) h = part_cut from count k bs (omega arith)

pub mark_cut : (k : ℕ) (file : List ℕ) → head_length ≤ k → head_length ≤ length file
    → mark_refused (take k file) ≡ mark_refused file
unfolding mark_refused unsigned_at
mark_cut k file h l =
    rw (
      le-leb head_length (length (take k file)) (omega (arith, length-take k file)),
      le-leb head_length (length file) l,
      part_cut 0 3 k file (omega arith),
      part_cut 3 2 k file (omega arith),
    )

-- 64 records take 1,543 bytes
pub long_count : (file : List ℕ) → file_kept ≤ length file → count_refused file ≡ true
unfolding file_length
long_count file h = go (ltb most_records (count_in file)) refl
  where
    go : (t : Bool) → ltb most_records (count_in file) ≡ t → count_refused file ≡ true
    go true e = count_many file (ltb-true most_records (count_in file) e)
    go false e =
        let few = ltb-false most_records (count_in file) e in
        count_fails file few (λ same. omega (arith, same))
