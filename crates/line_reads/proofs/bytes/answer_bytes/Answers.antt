-- `line_reads::bytes::answer_bytes` meets its contract.
use Rattle.line_reads.specs.Steps.{after_more, after_all}
use Rattle.line_reads.proofs.bytes.answer_bytes.Goals as goal

pub loop-b-preserved : goal.loop-b-preserved
loop-b-preserved c =
    let e = c.answer_byte.ensures in
    let l = c.loop-b in
    rw (e.begun, e.out_after) (after_more _ _ _ _ l.line l.out.items l.b-index c.loop-b-test.true l.invariant)

pub returns-clause-value : goal.returns-clause-value
returns-clause-value c =
    let l = c.loop-b in
    (after_all c.args.program c.args.start c.args.read.now c.args.out.now.items l.line l.out.items l.b-index c.loop-b-test.false l.invariant).0

pub returns-clause-out_after : goal.returns-clause-out_after
returns-clause-out_after c =
    let l = c.loop-b in
    (after_all c.args.program c.args.start c.args.read.now c.args.out.now.items l.line l.out.items l.b-index c.loop-b-test.false l.invariant).1
