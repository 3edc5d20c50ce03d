-- `line_dates::print_date` meets its contract.
use Rattle.std.specs.Prelude.{◌≡◌, refl, length}
use Rattle.std.proofs.Common.{lt-ltb}
use Rattle.rules.specs.Times.{overlaid}
use Rattle.line_dates.specs.DateLines.{date_in}
use Rattle.line_dates.proofs.print_date.Goals as goal

pub returns-then-out-lt64-clause-kept : goal.returns-then-out-lt64-clause-kept
unfolding date_in overlaid
returns-then-out-lt64-clause-kept c = rw (lt-ltb (length c.args.out.now) 64 c.if-out-lt64.true) refl
