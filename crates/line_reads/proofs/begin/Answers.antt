-- `line_reads::begin` meets its contract: the header stands at the front of the room.
use Rattle.std.proofs.Common.{◌≡◌, ap, ◌∙◌, List, ℕ, ◌+◌, ◌≤◌, arith, length, rules}
use Rattle.laws.specs.PuttingBytes.{overlaid_is}
use Rattle.line_reads.specs.declared.Program.{Program}
use Rattle.line_reads.specs.Reads.{header_line}
use Rattle.line_reads.specs.Lengths.{header_le}
use Rattle.line_reads.proofs.begin.Goals as goal

fits : (p : Program) (header room : List ℕ) → header ≡ header_line p → length room ≡ 65536
    → 0 + length header ≤ length room
fits p header room e long = omega (arith, ap length e, header_le p, long)

pub put_at-requires : goal.put_at-requires
put_at-requires c = fits _ _ _ c.header.ensures (search rules)

pub returns-clause-kept : goal.returns-clause-kept
returns-clause-kept c =
    let long : length c.args.out.now ≡ 65536 = search rules in
    (rw c.header.ensures at c.put_at.ensures.out_after)
    ∙ overlaid_is _ c.args.out.now (omega (arith, header_le c.args.program, long))
