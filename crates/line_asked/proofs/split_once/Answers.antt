-- `line_asked::split_once` meets its contract.
use Rattle.std.specs.Prelude.{◌+◌, take, drop}
use Rattle.std.proofs.Common.{sym, ap, ◌∙◌}
use Rattle.laws.specs.Lines.{to_end}
use Rattle.line_asked.proofs.Words.{place_some, place_none}
use Rattle.line_asked.proofs.split_once.Goals as goal

pub returns-in_err-n : goal.returns-in_err-n
returns-in_err-n c =
    rw c.from_residual.ensures (place_none c.args.byte c.args.s.now (sym c.position.ensures ∙ c.in_err-n.was))

pub returns : goal.returns
returns c =
    let s = c.args.s.now in
    let p = place_some c.args.byte s c.in_ok-n.n (sym c.position.ensures ∙ c.in_ok-n.was) in
    (p.1, ap (λ k. take k s) p.0, to_end s (c.in_ok-n.n + 1) ∙ ap (λ k. drop (k + 1) s) p.0)
