-- `line_asked::length_before` meets its contract.
use Rattle.std.specs.Prelude.{length}
use Rattle.std.proofs.Common.{ap, ◌∙◌}
use Rattle.std.specs.Option.{unwrap_or}
use Rattle.line_asked.proofs.Words.{first_or_all}
use Rattle.line_asked.proofs.length_before.Goals as goal

pub returns : goal.returns
returns c =
    c.unwrap_or.ensures ∙ ap (λ p. unwrap_or p (length c.args.s.now)) c.position.ensures
    ∙ first_or_all c.args.byte c.args.s.now
