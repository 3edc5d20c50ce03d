-- `list_from_numbers::put_stars` meets its contract.
use Rattle.std.proofs.Common.{◌≡◌, sym, ◌∙◌, ap, List, [], ◌∷◌, map, ℕ, ◌+◌, ◌<◌, ◌≤◌, arith, rules, ◌-◌, ◌^◌, length, get_or, take, drop, ℤ, pos}
use Rattle.std.specs.Int.Signed.{mag}
use borrow.Rule.Slice.PartMut.{put_mid}
use Rattle.words.specs.Fits.{held64}
use Rattle.stars.specs.Numbers.{star_of}
use Rattle.std.proofs.lemmas.List.{map-append, length-map, length-take-le}
use Rattle.std.proofs.lemmas.Grind.{take_at_read}
use Rattle.rules.specs.ListFile.{head_length, record_at}
use Rattle.rules.specs.ListWriting.{star_from}
use Rattle.list_bytes.specs.Puts.{put, put_none, put_put}
use Rattle.list_records.specs.Records.{low_record, low_records, low_record_length, low_records_length, low_snoc}
use Rattle.list_records.proofs.Parts.{put_rest}
use Rattle.list_from_numbers.proofs.put_stars.Goals as goal

-- one star more
more : (room : List ℕ) (i : ℕ) (rows : List (List ℤ)) → i < length rows → record_at (length rows) ≤ length room
    → put (put room head_length (low_records (map star_from (take i rows)))) (record_at i) (low_record (star_from (get_or rows i [])))
    ≡ put room head_length (low_records (map star_from (take (i + 1) rows)))
more room i rows l h =
    let before = map star_from (take i rows) in
    let star = star_from (get_or rows i []) in
    let count : length before ≡ i = length-map (take i rows) star_from ∙ length-take-le i rows (omega (arith, l)) in
    put_put room head_length (record_at i) (low_records before) (low_record star)
    (omega (arith, low_records_length before, count))
    (omega (arith, low_records_length before, count, low_record_length star, l, h))
    ∙ ap (put room head_length) (low_snoc before star
    ∙ ap low_records (sym (ap (map star_from) (take_at_read rows i [] l).1 ∙ map-append star_from (take i rows) (get_or rows i [] ∷ []))))

pub loop-i-init : goal.loop-i-init
unfolding low_records
loop-i-init c = put_none c.args.room.now head_length

pub loop-i-preserved : goal.loop-i-preserved
unfolding star_from
loop-i-preserved c =
    let i = c.loop-i.i in
    let room = c.args.room.now in
    let cur = c.loop-i.room in
    let rows = c.args.stars.now in
    let row = get_or rows i [] in
    let same : length cur ≡ length room = c.loop-i.auto.room in
    let held = λ (n : ℕ) (l : mag (get_or row n (pos 0)) < 2 ^ 63). held64 (get_or row n (pos 0)) l in
    let ra = held 0 (search rules) in
    let declination = held 1 (search rules) in
    let ra_motion = held 2 (search rules) in
    let declination_motion = held 3 (search rules) in
    ap (put_mid (record_at i) (length cur - record_at i) cur)
    (c.put_star.ensures
    ∙ (λ j. put (take (length cur - record_at i) (drop (record_at i) cur)) 0
    (low_record (star_of (ra j) (declination j) (ra_motion j) (declination_motion j)))))
    ∙ put_rest cur (low_record (star_from row)) (record_at i) (omega (arith, same, c.loop-i-test.true, c.requires))
    ∙ ap (λ r. put r (record_at i) (low_record (star_from row))) c.loop-i.invariant
    ∙ more room i rows c.loop-i-test.true c.requires
