-- `stars::site_refused` meets its contract.
use mathlib.Core.Path.{◌≡◌, sym, ap, ◌∙◌}
use mathlib.Core.Bool.{not}
use Rattle.words.specs.Fits.{held64}
use Rattle.rules.specs.Units.{half, quarter, within}
use Rattle.rules.specs.Night.{site_refused}
use Rattle.stars.proofs.site_refused.Goals as goal
use Rattle.stars.proofs.site_refused.Goals.{After-is_between-2}
use Rattle.stars.proofs.site_refused.Lts as lts
use Rattle.stars.proofs.site_refused.Reads as reads
use Rattle.stars.proofs.site_refused.Tie as tie

latitude_tested : (c : lts.After-is_between tie.the-claims reads.Pre reads.Post)
    → c.is_between.result ≡ within quarter c.before.before.args.site.latitude
unfolding within
latitude_tested c =
    let latitude = c.before.before.args.site.latitude in
    rw (held64 latitude c.before.struct_told-1.given.0.1) at c.is_between.ensures

pub returns-then-not-is_between : goal.returns-then-not-is_between
unfolding site_refused
returns-then-not-is_between c = let out = sym (latitude_tested c.before) ∙ c.if-not-is_between.true in simp out

longitude_tested : (c : After-is_between-2)
    → c.is_between-2.result ≡ within half c.before.before.before.before.before.args.site.longitude
unfolding within
longitude_tested c =
    let longitude = c.before.before.before.before.before.args.site.longitude in
    rw (held64 longitude c.before.struct_told-2-1.given.1.0.1) at c.is_between-2.ensures

pub returns : goal.returns
unfolding site_refused
returns c =
    let in-latitude = sym (latitude_tested c.before.before.before) ∙ c.before.before.if-not-is_between.false in
    simp in-latitude (ap not (longitude_tested c))
