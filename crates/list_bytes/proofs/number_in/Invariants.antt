-- v holds the number in the bytes past those that the iterator has left.
use Rattle.std.proofs.Common.{◌≡◌, ◌<◌, ◌-◌, length, take}
use Rattle.rules.specs.Bytes.{signed_at}
use Rattle.list_bytes.proofs.number_in.Given as goal

abbrev pub invariant-loop-b : goal.invariant-loop-b
invariant-loop-b l =
    (goal.iterator-loop-b).can_next l.b-iterator × (goal.iterator-loop-b).is_finite l.b-iterator
    × ((length l.b-iterator.iter.rest.now < length l.bytes)
    × ((l.b-iterator.iter.rest.now ≡ take (length l.b-iterator.iter.rest.now) l.bytes)
    × (l.v ≡ signed_at (length l.b-iterator.iter.rest.now) (length l.bytes - length l.b-iterator.iter.rest.now) l.bytes)))
