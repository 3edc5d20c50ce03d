-- `line_dates::printing::utc_text` meets its contract.
use Rattle.line_dates.specs.DateLines.{utc_text}
use Rattle.line_dates.proofs.printing.utc_text.Goals as goal

pub returns : goal.returns
unfolding utc_text
returns c = rw (c.put_date.ensures.items, c.new-text.ensures) at c.put_time.ensures
