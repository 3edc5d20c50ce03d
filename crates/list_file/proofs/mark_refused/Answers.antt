-- `list_file::mark_refused` meets its contract.
use Rattle.std.proofs.Common.{◌≡◌, refl, sym, ◌∙◌, ap, Bool, true, false, not, ◌&&◌, ◌≤◌, length, get_or, take, arith, List, [], ◌∷◌, ℕ, nat_eq, lt-ltb}
use Rattle.std.specs.List.{starts_with}
use lib.Dec.{eqb}
use borrow.Author.Tests.{eqb-true, eqb-false, eq-eqb, ne_eqb}
use Rattle.rules.specs.Bytes.{part, unsigned_at}
use Rattle.rules.specs.ListFile.{mark, head_length}
use Rattle.rules.specs.ListReading.{mark_refused}
use Rattle.laws.specs.FileParts.{part_cons, part_none}
use Rattle.laws.specs.FileTests.{mark_short, mark_long}
use Rattle.list_file.proofs.Words.{word_at}
use Rattle.list_file.proofs.mark_refused.Goals as goal
use Rattle.list_file.proofs.mark_refused.Goals.{then-file-lt-HEAD_BYTES, else-file-lt-HEAD_BYTES}

eqb_swap : (a b : ℕ) → eqb a b ≡ eqb b a
eqb_swap a b = by (eqb a b) refl
  where
    by : (t : Bool) → eqb a b ≡ t → t ≡ eqb b a
    by true e = sym (eq-eqb b a (sym (eqb-true a b e)))
    by false e = sym (ne_eqb b a (λ h. eqb-false a b e (sym h)))

other : {b : Bool} → true ≡ not b → false ≡ b
other {b = true} e = sym e
other {b = false} e = refl

marked : {b : Bool} → false ≡ not b → true ≡ b
marked {b = true} e = refl
marked {b = false} e = sym e

module _ (file : List ℕ) (l : head_length ≤ length file) where
  three : take 3 file ≡ get_or file 0 0 ∷ get_or file 1 0 ∷ get_or file 2 0 ∷ []
  unfolding part
  three =
      part_cons 0 2 file (omega arith) ∙ ap (λ r. get_or file 0 0 ∷ r) (part_cons 1 1 file (omega arith))
      ∙ ap (λ r. get_or file 0 0 ∷ get_or file 1 0 ∷ r)
      (part_cons 2 0 file (omega arith) ∙ ap (λ r. get_or file 2 0 ∷ r) (part_none 3 file))

  -- the version, after the mark
  passes : (b : Bool) → b ≡ starts_with nat_eq file mark
      → mark_refused file ≡ not (b && eqb (unsigned_at 3 2 file) 1)
  passes b e =
      let marked : starts_with nat_eq file mark ≡ eqb (get_or file 0 0) 83 && (eqb (get_or file 1 0) 76 && (eqb (get_or file 2 0) 84 && true)) =
      rw three (λ i. eqb_swap 83 (get_or file 0 0) i && (eqb_swap 76 (get_or file 1 0) i && (eqb_swap 84 (get_or file 2 0) i && true))) in
      mark_long file l ∙ ap (λ m. not (m && eqb (unsigned_at 3 2 file) 1)) (sym (e ∙ marked))

pub returns-then-not-starts_with : goal.returns-then-not-starts_with
returns-then-not-starts_with c =
    let file = c.args.file.now in
    c.if-not-starts_with.true ∙ sym (elim c.if-file-lt-HEAD_BYTES.branch [
      | then-file-lt-HEAD_BYTES w ↦ mark_short file w.if-file-lt-HEAD_BYTES.true
      | else-file-lt-HEAD_BYTES w ↦ passes file w.if-file-lt-HEAD_BYTES.false false
          (other (sym c.if-not-starts_with.true ∙ w.value-is) ∙ w.starts_with.ensures.value)
    ])

pub returns-else-not-starts_with : goal.returns-else-not-starts_with
returns-else-not-starts_with c =
    let file = c.args.file.now in
    elim c.if-file-lt-HEAD_BYTES.branch [
      | then-file-lt-HEAD_BYTES w ↦ (let short = lt-ltb (length file) head_length w.if-file-lt-HEAD_BYTES.true in cc)
      | else-file-lt-HEAD_BYTES w ↦ ap (λ n. not (eqb n 1)) (c.word_in.ensures ∙ word_at 3 file)
          ∙ sym (passes file w.if-file-lt-HEAD_BYTES.false true
          (marked (sym c.if-not-starts_with.false ∙ w.value-is) ∙ w.starts_with.ensures.value))
    ]
