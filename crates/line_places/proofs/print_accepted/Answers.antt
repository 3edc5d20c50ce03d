-- `line_places::print_accepted` meets its contract.
use Rattle.std.proofs.Common.{sym, ap, ◌∙◌}
use Rattle.words.specs.Fits.{held64}
use Rattle.rules.specs.declared.Refusal.{Refusal}
use Rattle.rules.specs.Refusals.{number}
use Rattle.rules.specs.Times.{ended}
use Rattle.line_places.specs.ListedLines.{air_accepted_lem, air_refused}
use Rattle.line_places.proofs.Parts.{refused_alone, accepted_some, accepted_none}
use Rattle.line_places.proofs.print_accepted.Goals as goal

pub returns-in-Some : goal.returns-in-Some
returns-in-Some c =
    let is = accepted_some c.args.command c.in-Some.command (sym c.accepted.ensures ∙ c.in-Some.is) in
    (rw (← is.1) at c.put_entries.ensures)
    ∙ ap ended (sym (air_accepted_lem _ _ _ _ is.0))

pub returns-in-None : goal.returns-in-None
returns-in-None c =
    let is = accepted_none c.args.command (sym c.accepted.ensures ∙ c.in-None.is) in
    refused_alone _ _ _ (number Refusal.Reading) c.requires.room
    (held64 c.number.result c.number.type_inv ∙ c.number.ensures) c.put_refusal.ensures
    ∙ ap ended (sym (air_refused _ _ _ _ is))
