-- `line_dates::printing::clocked_text` meets its contract.
use Rattle.std.proofs.Common.{◌∙◌}
use Rattle.words.specs.Fits.{held64}
use Rattle.line_dates.specs.DateLaws.{at_text, refused_text_lem}
use Rattle.line_dates.proofs.printing.clocked_text.Goals as goal

pub returns-in-Ok : goal.returns-in-Ok
returns-in-Ok c = rw (c.in-Ok.is, at_text c.in-Ok.utc) c.utc_text.ensures

pub returns-in-Err : goal.returns-in-Err
returns-in-Err c =
    rw (c.in-Err.is, refused_text_lem c.in-Err.r)
    (rw (held64 c.number.result c.number.type_inv ∙ c.number.ensures) at c.refused.ensures)
