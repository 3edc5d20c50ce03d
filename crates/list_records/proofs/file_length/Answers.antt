-- `list_records::file_length` meets its contract.
use Rattle.rules.specs.ListFile.{file_length}
use Rattle.rules.specs.ListWriting.{written_of}
use Rattle.laws.specs.ListWriting.{room_many, room_small, room_enough}
use Rattle.list_records.proofs.file_length.Goals as goal

pub returns-then-count-gt-MOST_RECORDS : goal.returns-then-count-gt-MOST_RECORDS
unfolding written_of
returns-then-count-gt-MOST_RECORDS c = rw (room_many c.args.count c.args.room c.if-count-gt-MOST_RECORDS.true)

pub returns-then-room-length : goal.returns-then-room-length
unfolding written_of file_length
returns-then-room-length c =
    rw (room_small c.args.count c.args.room c.if-count-gt-MOST_RECORDS.false c.if-room-length.true)

pub returns : goal.returns
unfolding written_of file_length
returns c = rw (room_enough c.args.count c.args.room c.if-count-gt-MOST_RECORDS.false c.if-room-length.false)
