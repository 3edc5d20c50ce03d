-- `marks::has_angle` meets its contract.
use Rattle.std.specs.Prelude.{◌≡◌, refl, Option, Some, None, ℤ}
use Rattle.std.proofs.Common.{◌∙◌}
use Rattle.std.specs.Option.{is_some}
use Rattle.rules.specs.Answers as rule
use Rattle.marks.proofs.has_angle.Goals as goal

is_angle : (a : Option ℤ) → is_some a ≡ rule.has_angle a
unfolding rule.has_angle
is_angle (Some x) = refl
is_angle None = refl

pub returns : goal.returns
returns c = c.is_some.ensures ∙ is_angle c.args.a
