-- `line_asked::with_site` meets its contract.
use Rattle.std.proofs.Common.{sym, ◌∙◌, SFits, to_z-of_z, rules}
use Rattle.std.specs.Int.{w64}
use Rattle.line_asked.proofs.Sites.{no_site, no_latitude, no_longitude, site_told}
use Rattle.line_asked.specs.Asking.{first_word, after_word}
use Rattle.line_asked.proofs.with_site.Goals as goal

pub returns-in_err-latitude : goal.returns-in_err-latitude
returns-in_err-latitude c =
    c.from_residual.ensures ∙ sym (no_site c.args.moment c.args.s.now c.in_err-latitude.ensures)

pub returns-in_err-parse : goal.returns-in_err-parse
unfolding first_word
returns-in_err-parse c =
    let e = rw c.in_ok-latitude.ensures.1 at c.in_err-parse.ensures.value in
    c.from_residual-in_err-parse.ensures ∙ sym (no_latitude c.args.moment c.args.s.now (sym e))

pub returns-in_err-parse-2 : goal.returns-in_err-parse-2
unfolding after_word
returns-in_err-parse-2 c =
    let e = rw c.in_ok-latitude.ensures.2 at c.in_err-parse-2.ensures.value in
    c.from_residual-in_err-parse-2.ensures ∙ sym (no_longitude c.args.moment c.args.s.now (sym e))

pub returns : goal.returns
unfolding first_word after_word
returns c =
    let x = c.in_ok-parse.field-0 in
    let y = c.in_ok-parse-2.field-0 in
    let f : SFits w64 x = search rules in
    let g : SFits w64 y = search rules in
    let d = rw c.in_ok-latitude.ensures.1 at c.in_ok-parse.ensures.value in
    let e = rw c.in_ok-latitude.ensures.2 at c.in_ok-parse-2.ensures.value in
    rw (to_z-of_z f, to_z-of_z g) (sym (site_told c.args.moment c.args.s.now x y (sym d) (sym e)))
