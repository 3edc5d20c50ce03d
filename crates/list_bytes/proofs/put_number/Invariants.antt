-- The bytes below `b-index` are put, and v holds what is above them.
use Rattle.std.proofs.Common.{◌≡◌, length}
use lib.Seq.{paste}
use Rattle.laws.specs.ByteByByte.{low_bytes, above}
use Rattle.list_bytes.proofs.put_number.Given as goal

abbrev pub invariant-loop-b : goal.invariant-loop-b
invariant-loop-b l =
    (l.room ≡ paste l.fn.room 0 (low_bytes (length l.fn.room) l.z) l.b-index) × (l.v ≡ above l.b-index l.z)
