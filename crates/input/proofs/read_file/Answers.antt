-- `input::read_file` meets its contract: what a read gives stands after what the reads before it gave.
use Rattle.std.proofs.Common.{◌-◌, arith, length, subst, sym}
use borrow.Rule.Slice.PartMut.{same_len_mid, mid_len}
use Rattle.std.specs.Io.KnownBytes.{Consumes}
use Rattle.input.proofs.Consumed.{read_after, consumed_more, at_most, read_gave}
use Rattle.input.proofs.read_file.Goals as goal

pub loop-done-preserved : goal.loop-done-preserved
loop-done-preserved g c =
    let l = c.loop-done in
    let n = c.in_ok-n.n in
    let few = at_most c.read.result n c.in_ok-n.was c.read.new.buf c.read.ensures.bound in
    let gave = read_gave c.read.result n c.in_ok-n.was c.read.new.buf _ _ c.read.ensures.bytes in
    let e = read_after l.done (length l.room - l.done) n l.room c.read.new.buf l.invariant.within few in
    record {
      within = omega (arith, same_len_mid l.done (length l.room - l.done) l.room c.read.new.buf c.read.auto.buf, mid_len l.done (length l.room) l.room (omega arith), few);
      bytes = subst (Consumes (g.F.Read.remaining c.args.file.now) (g.F.Read.remaining c.read.new.self)) (sym e)
          (consumed_more _ _ _ _ _ l.invariant.bytes gave);
    }
