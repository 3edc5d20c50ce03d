-- `line_dates::printing::put_time` meets its contract.
use Rattle.std.proofs.Common.{◌∙◌, append_assoc, SFits, to_z-of_z, rules}
use Rattle.std.specs.Int.{w32}
use Rattle.words.specs.Fits.{held64}
use Rattle.line_dates.specs.DateLines.{time_text}
use Rattle.line_dates.proofs.printing.put_time.Goals as goal

pub returns : goal.returns
unfolding time_text
returns c =
    let time = c.args.time in
    let hour : SFits w32 time.hour = search rules in
    let minute : SFits w32 time.minute = search rules in
    let second : SFits w32 time.second = search rules in
    let ms : SFits w32 time.ms = search rules in
    rw (
      c.put_marked-3.ensures.items,
      c.put_marked-2.ensures.items,
      c.put_marked.ensures.items,
      held64 c.from.result c.from.type_inv ∙ c.from.ensures ∙ to_z-of_z hour,
      held64 c.from-2.result c.from-2.type_inv ∙ c.from-2.ensures ∙ to_z-of_z minute,
      held64 c.from-3.result c.from-3.type_inv ∙ c.from-3.ensures ∙ to_z-of_z second,
      held64 c.from-4.result c.from-4.type_inv ∙ c.from-4.ensures ∙ to_z-of_z ms,
    ) at c.put_marked-4.ensures.items
    ∙ simp append_assoc
