-- `line_reads::answer_read` meets its contract: the answers of the first `count` bytes stand at the front of the room.
use Rattle.std.proofs.Common.{◌≡◌, ap, ◌∙◌, List, ℕ, ◌+◌, ◌≤◌, min, arith, length, take, take_all, length-take, rules}
use Rattle.std.proofs.lemmas.List.{take_min}
use Rattle.laws.specs.PuttingBytes.{overlaid_is}
use Rattle.line_reads.specs.declared.Program.{Program}
use Rattle.line_reads.specs.declared.starts.Start.{Start}
use Rattle.line_reads.specs.Reads.{answers_of}
use Rattle.line_reads.specs.Lengths.{written_le}
use Rattle.line_reads.proofs.answer_read.Goals as goal

-- the bytes that count, of a read that has no more than 1,024
counted_is : (count n : ℕ) (input : List ℕ) → n ≡ min count 1024 → length input ≡ 1024
    → take 1024 (take n input) ≡ take count input
counted_is count n input e h =
    let f : n ≡ min count (length input) = omega (arith, e, h) in
    take_all 1024 (take n input) (omega (arith, length-take n input, e))
    ∙ ap (λ n. take n input) f ∙ take_min count input

answers_short : (p : Program) (s : Start) (bytes : List ℕ) → length (answers_of p s (take 1024 bytes)) ≤ 65536
answers_short p s bytes = written_le p s (take 1024 bytes) (omega (arith, length-take 1024 bytes))

fits : (p : Program) (s : Start) (bytes text room : List ℕ) → text ≡ answers_of p s (take 1024 bytes)
    → length room ≡ 65536 → 0 + length text ≤ length room
fits p s bytes text room e long = omega (arith, ap length e, answers_short p s bytes, long)

pub put_at-requires : goal.put_at-requires
put_at-requires c =
    fits _ _ _ _ _ (c.as_slice.ensures.value ∙ c.answer_text-next.ensures.printed) (search rules)

pub returns-clause-answer : goal.returns-clause-answer
returns-clause-answer c =
    let input : length c.args.input.now ≡ 1024 = search rules in
    let e = counted_is c.args.count c.min-end.result c.args.input.now c.min-end.ensures input in
    let s = rw e at c.answer_text-next.ensures.answer in
    let n : c.put_at.result ≡ length (answers_of c.args.program c.args.start (take c.args.count c.args.input.now)) =
    (rw (c.as_slice.ensures.value, c.answer_text-next.ensures.printed, e) at c.put_at.ensures.value) ∙ omega arith in λ i. record { start = s i; written = n i }

pub returns-clause-kept : goal.returns-clause-kept
returns-clause-kept c =
    let input : length c.args.input.now ≡ 1024 = search rules in
    let long : length c.args.out.now ≡ 65536 = search rules in
    let e = counted_is c.args.count c.min-end.result c.args.input.now c.min-end.ensures input in
    (rw (c.as_slice.ensures.value, c.answer_text-next.ensures.printed, e) at c.put_at.ensures.out_after)
    ∙ overlaid_is _ c.args.out.now
    (omega (arith, ap length (ap (answers_of c.args.program c.args.start) e), answers_short c.args.program c.args.start (take c.min-end.result c.args.input.now), long))
