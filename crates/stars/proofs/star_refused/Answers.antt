-- `stars::star_refused` meets its contract.
use Rattle.std.proofs.Common.{◌∙◌, rules, SFits, to_z-of_z}
use Rattle.std.specs.Int.{w64}
use Rattle.words.specs.Holds.{from_i32}
use Rattle.rules.specs.Stars.{star_refused}
use Rattle.stars.specs.Numbers.{star_of}
use Rattle.stars.proofs.star_refused.Goals as goal

pub returns : goal.returns
returns c =
    let s = c.args.star in
    let ra : SFits w64 s.ra = search rules in
    let declination : SFits w64 s.declination = search rules in
    let ra_motion = from_i32 s.ra_motion _ (search rules) c.from.ensures in
    let declination_motion = from_i32 s.declination_motion _ (search rules) c.from-2.ensures in
    c.numbers_refused.ensures
    ∙ (λ i. star_refused (star_of (to_z-of_z ra i) (to_z-of_z declination i) (ra_motion.value i) (declination_motion.value i)))
