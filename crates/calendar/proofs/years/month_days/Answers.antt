-- `calendar::years::month_days` meets its contract.
use Rattle.std.proofs.Common.{◌∙◌, to_z-of_z}
use Rattle.words.specs.Fits.{held64}
use Rattle.calendar.proofs.years.month_days.Goals as goal

pub returns : goal.returns
returns c =
    let row = simp (to_z-of_z c.ranges.year) at c.months_of.ensures in
    let is = rw (to_z-of_z c.ranges.month, row) at c.from.ensures in
    held64 c.from.result c.from.type_inv ∙ is
