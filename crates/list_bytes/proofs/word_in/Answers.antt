-- `list_bytes::word_in` meets its contract.
use Rattle.std.proofs.Common.{arith}
use Rattle.laws.specs.FileParts.{unsigned_cons, unsigned_none}
use Rattle.list_bytes.proofs.word_in.Goals as goal

pub returns : goal.returns
returns c =
    let bytes = c.args.bytes.now in
    omega (
      arith,
      c.from_le_bytes.ensures,
      unsigned_cons 0 1 bytes (omega (arith, c.requires)),
      unsigned_cons 1 0 bytes (omega (arith, c.requires)),
      unsigned_none 2 bytes,
    )
