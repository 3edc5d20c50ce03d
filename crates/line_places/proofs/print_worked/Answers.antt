-- `line_places::print_worked` meets its contract.
use Rattle.std.proofs.Common.{◌∙◌}
use Rattle.words.specs.Fits.{held64}
use Rattle.rules.specs.Refusals.{number}
use Rattle.line_places.specs.Listed.{counted}
use Rattle.line_places.proofs.Parts.{refused_alone}
use Rattle.line_places.proofs.print_worked.Goals as goal

pub returns-in-Ok : goal.returns-in-Ok
unfolding counted
returns-in-Ok c = rw c.in-Ok.is c.print_accepted.ensures

pub returns-in-Err : goal.returns-in-Err
unfolding counted
returns-in-Err c =
    rw c.in-Err.is
    (refused_alone _ _ _ (number c.in-Err.r) c.requires.room
    (held64 c.number.result c.number.type_inv ∙ c.number.ensures) c.put_refusal.ensures)
