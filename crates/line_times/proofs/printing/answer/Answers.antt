-- `line_times::printing::answer` meets its contract.
use Rattle.std.proofs.Common.{◌∙◌, SFits, to_z-of_z, rules}
use Rattle.std.specs.Int.{w64}
use Rattle.words.specs.Fits.{held64}
use Rattle.laws.specs.Times.{refused_answer, at_answer}
use Rattle.line_times.proofs.printing.answer.Goals as goal

pub returns-in-Ok : goal.returns-in-Ok
returns-in-Ok c =
    let f : SFits w64 c.in-Ok.at.ut.0 = search rules in
    let g : SFits w64 c.in-Ok.at.tt.0 = search rules in
    rw (c.in-Ok.is, at_answer c.args.day c.in-Ok.at.ut c.in-Ok.at.tt)
    (rw (c.new-text.ensures, to_z-of_z c.ranges.day, to_z-of_z f, to_z-of_z g) at c.append_answer.ensures.items)

pub returns-in-Err : goal.returns-in-Err
returns-in-Err c =
    rw (c.in-Err.is, refused_answer c.args.day c.in-Err.r)
    (rw (c.new-text.ensures, held64 c.number.result c.number.type_inv ∙ c.number.ensures) at c.append_refused.ensures.items)
