-- The loop of `line_reads::bytes::answer_bytes`: what is left of the read is answered as all of it is from its start.
use Rattle.line_reads.specs.Steps.{After}
use Rattle.line_reads.proofs.bytes.answer_bytes.Given as goal

abbrev pub invariant-loop-b : goal.invariant-loop-b
invariant-loop-b l = After l.program l.fn.start l.read l.initial.out.items l.line l.out.items l.b-index
