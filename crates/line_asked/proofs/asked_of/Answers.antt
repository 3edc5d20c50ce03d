-- `line_asked::asked_of` meets its contract.
use Rattle.std.proofs.Common.{sym, ◌∙◌, arith, length-drop}
use Rattle.line_asked.specs.Asking.{moment_end}
use Rattle.line_asked.specs.Words.{end_ge, asked_short}
use Rattle.line_asked.proofs.Parts.{asked_none, asked_told}
use Rattle.line_asked.proofs.asked_of.Goals as goal

pub returns-in_err-tail : goal.returns-in_err-tail
returns-in_err-tail c =
    let line = c.args.line.now in
    c.from_residual.ensures ∙ sym (asked_short line (omega (arith, end_ge line, c.in_err-tail.ensures.cases)))

pub returns-in_err-word : goal.returns-in_err-word
unfolding moment_end
returns-in_err-word c =
    let line = c.args.line.now in
    let tail = c.in_ok-tail.ensures.cases.2 in
    let h = rw tail at c.in_err-word.ensures in
    c.from_residual-in_err-word.ensures ∙ sym (asked_short line (omega (arith, length-drop 24 line, h)))

pub returns-in_err-moment : goal.returns-in_err-moment
returns-in_err-moment c =
    let line = c.args.line.now in
    let cut = rw c.in_ok-tail.ensures.cases.2 at c.in_ok-word.ensures in
    c.from_residual-in_err-moment.ensures
    ∙ sym (asked_none line c.in_ok-word.word.now c.in_ok-word.site.now cut.0 cut.1 cut.2 c.in_err-moment.ensures)

pub returns : goal.returns
returns c =
    let line = c.args.line.now in
    let cut = rw c.in_ok-tail.ensures.cases.2 at c.in_ok-word.ensures in
    let m = c.in_ok-moment.moment in
    c.with_site.ensures
    ∙ sym (asked_told line c.in_ok-word.word.now c.in_ok-word.site.now cut.0 cut.1 cut.2 m c.in_ok-moment.ensures)
