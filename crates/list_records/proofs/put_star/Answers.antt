-- `list_records::put_star` meets its contract.
use Rattle.std.proofs.Common.{◌≡◌, ◌++◌, arith, length, length-append}
use Rattle.words.specs.Fits.{held64}
use Rattle.laws.specs.ByteByByte.{low_bytes, low_length}
use Rattle.list_records.specs.Records.{low_record}
use Rattle.list_records.proofs.Parts.{number_first, number_next}
use Rattle.list_records.proofs.put_star.Goals as goal

pub returns : goal.returns
unfolding low_record
returns c =
    let a = c.args in
    let room = a.bytes.now in
    let u = low_bytes 8 a.ra in
    let v = low_bytes 8 a.declination in
    let w = low_bytes 4 a.ra_motion in
    let two : length (u ++ v) ≡ 16 = omega (arith, length-append u v, low_length 8 a.ra, low_length 8 a.declination) in
    let three : length (u ++ v ++ w) ≡ 20 = omega (arith, length-append (u ++ v) w, two, low_length 4 a.ra_motion) in
    let ra = number_first room 8 a.ra _ (held64 a.ra c.ranges.ra.sfits) c.put_number.new.room
    (omega (arith, c.requires)) c.put_number.ensures in
    let declination = number_next room 8 a.declination _ (held64 a.declination c.ranges.declination.sfits) c.put_number-2.new.room
    8 u _ ra (low_length 8 a.ra) (omega (arith, c.requires)) c.put_number-2.ensures in
    let ra_motion = number_next room 4 a.ra_motion _ (held64 a.ra_motion c.ranges.ra_motion.sfits) c.put_number-3.new.room
    16 (u ++ v) _ declination two (omega (arith, c.requires)) c.put_number-3.ensures in
    number_next room 4 a.declination_motion _ (held64 a.declination_motion c.ranges.declination_motion.sfits)
    c.put_number-4.new.room 20 (u ++ v ++ w) _ ra_motion three (omega (arith, c.requires)) c.put_number-4.ensures
