-- `line_places::printing::put_columns` meets its contract.
use Rattle.line_places.specs.AcceptedAir.{accepted_in_range}
use Rattle.line_places.proofs.printing.put_columns.Goals as goal

pub invariant_of-append_observed : goal.invariant_of-append_observed
invariant_of-append_observed c =
    let air = c.in-Some.air in
    accepted_in_range air.pressure air.temperature (rw c.in-Some.is at c.command.invariant)
