-- `line_times::printing::answer_to` meets its contract: a refused date refuses its moment.
use Rattle.std.proofs.Common.{◌≡◌, sym, ◌∙◌, SFits, to_z-of_z, rules}
use Rattle.std.specs.Int.{w64}
use Rattle.words.specs.Fits.{held64}
use Rattle.rules.specs.Calendar.{day_number}
use Rattle.laws.specs.DayAndDate.{day_of_given}
use Rattle.laws.specs.Times.{refused_answer, instants_of_refused}
use Rattle.line_times.proofs.printing.answer_to.Goals as goal

pub returns-in-Ok : goal.returns-in-Ok
returns-in-Ok c =
    let m = c.args.moment in
    let f : SFits w64 c.in-Ok.day = search rules in
    let e : c.in-Ok.day ≡ day_number m.date = sym (day_of_given m.date c.in-Ok.day (sym c.day_of.ensures ∙ c.in-Ok.is)).number in
    rw (to_z-of_z f, e, c.instants.ensures) at c.answer.ensures

pub returns-in-Err : goal.returns-in-Err
returns-in-Err c =
    let m = c.args.moment in
    let e = instants_of_refused m c.in-Err.r (sym c.day_of.ensures ∙ c.in-Err.is) in
    rw (e, refused_answer (day_number m.date) c.in-Err.r)
    (rw (held64 c.number.result c.number.type_inv ∙ c.number.ensures) at c.refused.ensures)
