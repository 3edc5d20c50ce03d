-- `marks::or_nought` meets its contract.
use Rattle.std.specs.Prelude.{◌≡◌, refl, Option, Some, None, ℤ, pos}
use Rattle.std.proofs.Common.{rules, ◌∙◌}
use Rattle.std.specs.Option.{unwrap_or}
use Rattle.rules.specs.Answers as rule
use Rattle.marks.proofs.or_nought.Goals as goal

is_angle : (a : Option ℤ) → unwrap_or a (pos 0) ≡ rule.or_nought a
unfolding rule.or_nought
is_angle (Some x) = refl
is_angle None = refl

pub returns : goal.returns
returns c = search rules ∙ c.unwrap_or.ensures ∙ is_angle c.args.a
