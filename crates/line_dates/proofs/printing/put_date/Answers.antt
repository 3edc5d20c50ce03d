-- `line_dates::printing::put_date` meets its contract.
use Rattle.std.proofs.Common.{◌∙◌, append_assoc, SFits, to_z-of_z, rules}
use Rattle.std.specs.Int.{w32}
use Rattle.words.specs.Fits.{held64}
use Rattle.line_dates.specs.DateLines.{date_text}
use Rattle.line_dates.proofs.printing.put_date.Goals as goal

pub returns-clause-items : goal.returns-clause-items
unfolding date_text
returns-clause-items c =
    let date = c.args.date in
    let year : SFits w32 date.year = search rules in
    let month : SFits w32 date.month = search rules in
    let day : SFits w32 date.day = search rules in
    rw (
      c.put_marked.ensures.items,
      c.append_digits.ensures.items,
      held64 c.from.result c.from.type_inv ∙ c.from.ensures ∙ to_z-of_z year,
      held64 c.from-2.result c.from-2.type_inv ∙ c.from-2.ensures ∙ to_z-of_z month,
      held64 c.from-3.result c.from-3.type_inv ∙ c.from-3.ensures ∙ to_z-of_z day,
    ) at c.put_marked-2.ensures.items
    ∙ simp append_assoc
