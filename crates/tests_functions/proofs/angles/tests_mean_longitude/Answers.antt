-- `tests_functions::angles::tests_mean_longitude` meets its contract.
use Rattle.std.proofs.Common.{rules, ◌≡◌, ◌∙◌, ap}
use Rattle.rules.specs.Answers.{angle_answer}
use Rattle.rules.specs.Polynomials.{angle_at}
use Rattle.rules.specs.Sun.{mean_longitude}
use Rattle.tests_functions.specs.Angles.{tests_angle}
use Rattle.tests_functions.specs.InstantsGiven.{in_tt}
use Rattle.tests_functions.proofs.angles.tests_mean_longitude.Goals as goal

pub returns : goal.returns
unfolding angle_at
returns c =
    let told : c.map.result ≡ angle_at c.args.tt (mean_longitude (in_tt c.args.tt)) = search rules in
    c.into.ensures ∙ ap (λ a. tests_angle (angle_answer a)) told
