-- `list_records::put_record` meets its contract.
use Rattle.std.proofs.Common.{rules, ◌∙◌, ap}
use Rattle.words.specs.Fits.{held64, held32}
use Rattle.laws.specs.StarWidths.{StarFits}
use Rattle.stars.specs.Numbers.{star_of}
use Rattle.list_bytes.specs.Puts.{put}
use Rattle.list_records.specs.Records.{low_record, low_record_lem}
use Rattle.list_records.proofs.put_record.Goals as goal

pub returns : goal.returns
returns c =
    let s = c.args.star in
    let room = c.args.bytes.now in
    let fits : StarFits s = record {
      ra_fits = search rules;
      declination_fits = search rules;
      ra_motion_fits = search rules;
      declination_motion_fits = search rules;
    } in
    let ra = held64 s.ra fits.ra_fits in
    let declination = held64 s.declination fits.declination_fits in
    let ra_motion = held64 c.from.result c.from.type_inv ∙ c.from.ensures ∙ held32 s.ra_motion fits.ra_motion_fits in
    let declination_motion = held64 c.from-2.result c.from-2.type_inv ∙ c.from-2.ensures
    ∙ held32 s.declination_motion fits.declination_motion_fits in
    c.put_star.ensures
    ∙ (λ i. put room 0 (low_record (star_of (ra i) (declination i) (ra_motion i) (declination_motion i))))
    ∙ ap (put room 0) (low_record_lem s fits)
