-- The stars below i are put as records.
use Rattle.std.proofs.Common.{◌≡◌, take}
use Rattle.rules.specs.ListFile.{head_length}
use Rattle.rules.specs.ListWriting.{stars_of}
use Rattle.laws.specs.FileLength.{records}
use Rattle.list_bytes.specs.Puts.{put}
use Rattle.entries_write.proofs.write_list.Given as goal

abbrev pub invariant-loop-i : goal.invariant-loop-i
invariant-loop-i l = l.room ≡ put l.fn.room head_length (records (stars_of (take l.i l.entries)))
