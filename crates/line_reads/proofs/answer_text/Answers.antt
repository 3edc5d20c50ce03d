-- `line_reads::answer_text` meets its contract: of a read the first 1,024 bytes count, and none is its end.
use Rattle.std.proofs.Common.{◌≡◌, sym, ap, ◌∙◌, List, [], ◌∷◌, ◌++◌, ℕ, min, arith, length, take, refl, length-take}
use Rattle.std.proofs.lemmas.List.{take_min}
use Rattle.line_reads.specs.declared.Program.{Program}
use Rattle.line_reads.specs.declared.starts.Start.{Start}
use Rattle.line_reads.specs.Reads.{none, last_answer, answers_of, start_of_next}
use Rattle.line_reads.specs.Steps.{answers_of_some, next_of_some}
use Rattle.line_reads.proofs.answer_text.Goals as goal

-- the bytes that count
counted_is : (read : List ℕ) (n : ℕ) → n ≡ min (length read) 1024 → take n read ≡ take 1024 read
counted_is read n e =
    let f : n ≡ min 1024 (length read) = omega arith in
    ap (λ n. take n read) f ∙ take_min 1024 read

how_many : (read : List ℕ) (n : ℕ) → n ≡ min (length read) 1024 → length (take 1024 read) ≡ n
how_many read n e = length-take 1024 read ∙ (omega arith)

next_at_end : (s : Start) (bytes : List ℕ) → length bytes ≡ 0 → start_of_next s bytes ≡ none
unfolding start_of_next
next_at_end s [] h = refl
next_at_end s (b ∷ bytes) h = absurd (omega arith)

last_at_end : (p : Program) (s : Start) (bytes : List ℕ) → length bytes ≡ 0 → answers_of p s bytes ≡ last_answer p s
unfolding answers_of
last_at_end p s [] h = refl
last_at_end p s (b ∷ bytes) h = absurd (omega arith)

-- what stood in the room is gone
after_none : (old new bytes : List ℕ) → old ≡ [] → new ≡ old ++ bytes → new ≡ bytes
after_none old new bytes e f = f ∙ ap (λ l. l ++ bytes) e

pub returns-then-end-eq0-clause-answer : goal.returns-then-end-eq0-clause-answer
returns-then-end-eq0-clause-answer c =
    let n : length (take 1024 c.args.read.now) ≡ 0 =
    omega (arith, length-take 1024 c.args.read.now, c.min-end.ensures, c.if-end-eq0.true) in
    c.answer_end.ensures.value ∙ sym (next_at_end c.args.start (take 1024 c.args.read.now) n)

pub returns-then-end-eq0-clause-printed : goal.returns-then-end-eq0-clause-printed
returns-then-end-eq0-clause-printed c =
    let n : length (take 1024 c.args.read.now) ≡ 0 =
    omega (arith, length-take 1024 c.args.read.now, c.min-end.ensures, c.if-end-eq0.true) in
    after_none _ _ _ c.clear.ensures c.answer_end.ensures.out_after
    ∙ sym (last_at_end c.args.program c.args.start (take 1024 c.args.read.now) n)

pub returns-clause-answer : goal.returns-clause-answer
returns-clause-answer c =
    let bytes = take 1024 c.args.read.now in
    let e = counted_is c.args.read.now c.min-end.result c.min-end.ensures in
    let n = how_many c.args.read.now c.min-end.result c.min-end.ensures in
    (rw e at c.answer_bytes.ensures.value)
    ∙ sym (next_of_some c.args.start bytes (omega (arith, n, c.if-end-eq0.false)))

pub returns-clause-printed : goal.returns-clause-printed
returns-clause-printed c =
    let bytes = take 1024 c.args.read.now in
    let e = counted_is c.args.read.now c.min-end.result c.min-end.ensures in
    let n = how_many c.args.read.now c.min-end.result c.min-end.ensures in
    after_none _ _ _ c.clear.ensures (rw e at c.answer_bytes.ensures.out_after)
    ∙ sym (answers_of_some c.args.program c.args.start bytes (omega (arith, n, c.if-end-eq0.false)))
