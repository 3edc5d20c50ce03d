-- `line_places::print_asked` meets its contract.
use Rattle.std.proofs.Common.{◌≡◌, refl, sym, ap, ◌∙◌, arith, length, rules, Ok, Err}
use Rattle.words.specs.Fits.{held64}
use Rattle.rules.specs.Refusals.{number}
use Rattle.rules.specs.Times.{ended}
use Rattle.line_places.specs.ListedLines.{file_counted, file_refused, asked_for, asked_other}
use Rattle.line_places.proofs.Parts.{refused_alone, first_worked}
use Rattle.line_places.proofs.print_asked.Goals as goal

pub returns-in-Err-default : goal.returns-in-Err-default
returns-in-Err-default c =
    let r = c.in-Err-default.r in
    let refused : c.args.listing.answer ≡ Err r = search rules in
    refused_alone _ _ _ (number r) c.requires.room
    (held64 c.number.result c.number.type_inv ∙ c.number.ensures) c.put_refusal.ensures
    ∙ ap ended (sym (file_refused _ _ c.args.asked c.args.listing r refused))

pub returns-in-Ok-None : goal.returns-in-Ok-None
returns-in-Ok-None c =
    let count = c.in-Ok-None.field-0-0 in
    let counted : c.args.listing.answer ≡ Ok count = c.in-Ok-None.is-0 in
    refused_alone _ _ _ 0 c.requires.room refl c.put_refusal-in-Ok-None.ensures
    ∙ ap ended (sym (file_counted _ _ c.args.asked c.args.listing count counted
    ∙ asked_other _ _ c.args.asked c.args.listing.entries count c.in-Ok-None.is-1))

pub returns-in-Ok-Some : goal.returns-in-Ok-Some
returns-in-Ok-Some c =
    let count = c.in-Ok-Some.count in
    let worked = c.work-worked.result in
    let counted : c.args.listing.answer ≡ Ok count = search rules in
    let long : length worked.entries ≡ 64 = search rules in
    c.print_worked.ensures
    ∙ ap ended (first_worked _ _ worked count (omega (arith, long, c.requires.few count counted))
    ∙ asked_for _ _ c.args.asked c.args.listing.entries count _ _ worked c.in-Ok-Some.is-1 c.work-worked.ensures
    ∙ sym (file_counted _ _ c.args.asked c.args.listing count counted))
