-- `line_reads::starts::Start::push` meets its contract.
use Rattle.line_reads.specs.Paddings.{padded_longer, held_longer, held_full}
use Rattle.line_reads.proofs.starts.Start.push.Goals as goal

pub invariant_of-self : goal.invariant_of-self
invariant_of-self c = padded_longer c.self.inside _ c.self.invariant c.if-self-lt32.true

pub returns-then-self-lt32 : goal.returns-then-self-lt32
returns-then-self-lt32 c =
    let s = c.self in
    held_longer s.inside c.args.self.now s.view_is s.invariant c.args.b c.if-self-lt32.true

pub returns-else-self-lt32 : goal.returns-else-self-lt32
returns-else-self-lt32 c =
    let s = c.self in
    held_full s.inside c.args.self.now s.view_is s.invariant c.args.b c.if-self-lt32.false
