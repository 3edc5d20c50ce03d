-- `tests_functions::angles::tests_sidereal_polynomial` meets its contract.
use Rattle.std.proofs.Common.{rules, ◌≡◌, ◌∙◌, ap}
use Rattle.rules.specs.Answers.{angle_answer}
use Rattle.rules.specs.Polynomials.{angle_at}
use Rattle.rules.specs.Sidereal.{sidereal_polynomial}
use Rattle.tests_functions.specs.Angles.{tests_angle}
use Rattle.tests_functions.specs.InstantsGiven.{in_ut}
use Rattle.tests_functions.proofs.angles.tests_sidereal_polynomial.Goals as goal

pub returns : goal.returns
unfolding angle_at
returns c =
    let told : c.map.result ≡ angle_at c.args.ut (sidereal_polynomial (in_ut c.args.ut)) = search rules in
    c.into.ensures ∙ ap (λ a. tests_angle (angle_answer a)) told
