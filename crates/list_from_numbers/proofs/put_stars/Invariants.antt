-- The stars below i are put.
use Rattle.std.proofs.Common.{◌≡◌, map, take}
use Rattle.rules.specs.ListFile.{head_length}
use Rattle.rules.specs.ListWriting.{star_from}
use Rattle.list_bytes.specs.Puts.{put}
use Rattle.list_records.specs.Records.{low_records}
use Rattle.list_from_numbers.proofs.put_stars.Given as goal

abbrev pub invariant-loop-i : goal.invariant-loop-i
invariant-loop-i l = l.room ≡ put l.fn.room head_length (low_records (map star_from (take l.i l.stars)))
